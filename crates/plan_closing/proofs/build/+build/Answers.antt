use Rattle.std.proofs.Common.{map, refl}
use Rattle.flat_form.specs.declared.lists.PlanArg.TheVariants.{Nat}
use Rattle.plan_closing.proofs.Building.{build_turn, build_done}
use Rattle.plan_closing.proofs.Counting.{first_sound}
use Rattle.plan_closing.specs.Counted.{scope_of}
use Rattle.closed_type.specs.View.{closed_arg}
use Rattle.plan_closing.proofs.build.+build.Goals as goal

pub build_args-loop-arg-preserved : goal.build_args-loop-arg-preserved
build_args-loop-arg-preserved t c = record {
  sound = (first_sound c.args.flat.now c.args.top c.args.args.now c.loop-arg.arg-index _ (Nat 0) c.loop-arg-test.true refl c.loop-arg.invariant.sound).1;
  same = build_turn c.args.flat.now (scope_of c.args.env.now c.args.types.now) c.args.args.now c.loop-arg.arg-index _ (Nat 0) (map closed_arg c.loop-arg.built) _ _ _
      c.loop-arg-test.true refl c.in_ok-made.ensures c.in_ok-keep.ensures c.loop-arg.invariant.same;
}

pub build_args-returns : goal.build_args-returns
build_args-returns t c = build_done c.args.flat.now (scope_of c.args.env.now c.args.types.now) c.args.args.now c.loop-arg.arg-index (map closed_arg c.loop-arg.built) _ c.loop-arg-test.false c.loop-arg.invariant.same
