use Rattle.std.proofs.Common.{map}
use Rattle.tlb_syntax.specs.View.{constructor}
use Rattle.plan_compile.proofs.Plans.{plans_turn, plans_done}
use Rattle.plan_compile.proofs.compile.compile_all.Goals as goal

pub loop-constructor-preserved : goal.loop-constructor-preserved
loop-constructor-preserved c = record {
  flat = c.in_ok-plan.ensures.adds.flat;
  stand = plans_turn c.loop-constructor.flat c.compile_constructor.new.flat (map constructor c.args.types.now) c.args.constructors.now c.loop-constructor.constructor-index c.constructor-item.result c.loop-constructor.plans c.push.new.self c.in_ok-plan.plan
      c.loop-constructor-test.true c.constructor-item.is c.loop-constructor.invariant.flat c.in_ok-plan.ensures.adds c.loop-constructor.invariant.stand c.in_ok-plan.ensures.stands c.in_ok-push.ensures.ok;
}

pub returns-clause-stand : goal.returns-clause-stand
returns-clause-stand c = plans_done c.loop-constructor.flat (map constructor c.args.types.now) c.args.constructors.now c.loop-constructor.constructor-index c.loop-constructor.plans c.loop-constructor-test.false c.loop-constructor.invariant.stand
