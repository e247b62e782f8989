use Rattle.std.proofs.Common.{◌≡◌, ap, map, subst, ◌∙◌, IfOk, arith, ◌+◌, drop}
use Rattle.tlb_syntax.specs.View.{constructor, expr as expr_view, exprs as exprs_view}
use Rattle.core_form.specs.Core.{Ty, Args}
use Rattle.flat_form.specs.Stands.{type_at}
use Rattle.flat_form.specs.Parts.{append_args, args_so_far}
use Rattle.flat_form.specs.GrowthLaws.{adds_on, arguments_stay, arguments_sound, on_ok}
use Rattle.core_form.specs.Core as core
use Rattle.schema_core.specs.CoreOf.{args_of}
use Rattle.plan_compile.specs.Applied.{applied_to}
use Rattle.plan_compile.specs.Views.{names_by}
use Rattle.plan_compile.proofs.Arguments.{args_done, args_turn, kinds_done, no_argument, no_output, second_none, type_argument, type_of_sum, unhidden_is}
use Rattle.plan_compile.proofs.types.+compile.Goals as goal

pub compile_arg-push_type-requires-clause-args : goal.compile_arg-push_type-requires-clause-args
compile_arg-push_type-requires-clause-args t c =
    arguments_sound c.args.flat.now c.compile_type.new.flat c.args.made.now c.in_ok-ty-in-TypeIn.ensures.adds c.requires.sound

pub compile_arg-returns-in_ok-ty-in-TypeIn-clause-stands : goal.compile_arg-returns-in_ok-ty-in-TypeIn-clause-stands
compile_arg-returns-in_ok-ty-in-TypeIn-clause-stands t c =
    let f = c.args.flat.now in
    let g = c.compile_type.new.flat in
    on_ok c.push_type.result (λ e. e
    ∙ ap (λ z. append_args z (core.ty_arg (type_at g c.in_ok-ty-in-TypeIn.ty) core.no_args)) (arguments_stay f g c.args.made.now c.requires.flat c.in_ok-ty-in-TypeIn.ensures.adds c.requires.sound)
    ∙ type_argument (map constructor c.args.types.now) (names_by c.args.names.now) (args_so_far f c.args.made.now) c.args.kind (expr_view c.args.arg.now) (type_at g c.in_ok-ty-in-TypeIn.ty)
    c.in-TypeIn.is c.in_ok-ty-in-TypeIn.ensures.stands) c.push_type.ensures.stands

pub compile_arg-returns-in-None-clause-stands : goal.compile_arg-returns-in-None-clause-stands
compile_arg-returns-in-None-clause-stands t c =
    no_output (map constructor c.args.types.now) (names_by c.args.names.now) (args_so_far c.args.flat.now c.args.made.now) c.args.kind (expr_view c.args.arg.now) c.in-NumberOut.is c.in-None.ensures

pub compile_arg-returns-in-NoKind-clause-stands : goal.compile_arg-returns-in-NoKind-clause-stands
compile_arg-returns-in-NoKind-clause-stands t c =
    no_argument (map constructor c.args.types.now) (names_by c.args.names.now) (args_so_far c.args.flat.now c.args.made.now) c.args.kind (expr_view c.args.arg.now) c.in-NoKind.is

pub compile_args-loop-arg-preserved : goal.compile_args-loop-arg-preserved
compile_args-loop-arg-preserved t c = record {
  adds = adds_on c.args.flat.now c.loop-arg.flat c.compile_arg.new.flat c.loop-arg.invariant.adds c.in_ok-compile_arg-in-Some.ensures.adds;
  sound = c.in_ok-compile_arg-in-Some.ensures.sound;
  same = ap (λ z. append_args (args_so_far c.compile_arg.new.flat c.compile_arg.new.made) (args_of (map constructor c.args.types.now) (names_by c.args.names.now) (drop z c.args.kinds.now) (exprs_view (drop (c.loop-arg.arg-index + 1) c.args.args.now)))) c.in_ok-place.ensures
      ∙ args_turn (map constructor c.args.types.now) (names_by c.args.names.now) c.args.kinds.now c.loop-arg.place c.args.args.now c.loop-arg.arg-index c.arg-item.result c.in-Some.kind.now
      (args_so_far c.loop-arg.flat c.loop-arg.made) (args_so_far c.compile_arg.new.flat c.compile_arg.new.made) _
      c.loop-arg-test.true c.arg-item.is c.in-Some.ensures.value c.in_ok-compile_arg-in-Some.ensures.stands c.loop-arg.invariant.same;
}

pub compile_args-returns-clause-stands : goal.compile_args-returns-clause-stands
compile_args-returns-clause-stands t c =
    args_done (map constructor c.args.types.now) (names_by c.args.names.now) c.args.args.now c.loop-arg.arg-index _ (args_so_far c.loop-arg.flat c.loop-arg.made) _ c.loop-arg-test.false c.loop-arg.invariant.same

pub compile_type-returns-in-Sum-clause-stands : goal.compile_type-returns-in-Sum-clause-stands
compile_type-returns-in-Sum-clause-stands t c =
    let P : Ty → Type 0 = λ z. IfOk c.add_nothing-in-Sum.result (λ n. type_at c.add_nothing-in-Sum.new.flat n ≡ z) in
    subst P (type_of_sum (map constructor c.args.types.now) (names_by c.args.names.now) c.args.e.now c.in-Sum.field-0 c.in-Sum.field-1 c.in-Sum.field-2 c.in-Sum.is) c.add_nothing-in-Sum.ensures.stands

pub compile_args-returns-in-None-clause-stands : goal.compile_args-returns-in-None-clause-stands
compile_args-returns-in-None-clause-stands t c =
    kinds_done (map constructor c.args.types.now) (names_by c.args.names.now) _ c.args.kinds.now c.loop-arg.place (args_so_far c.loop-arg.flat c.loop-arg.made) _ c.in-None.ensures.value c.loop-arg.invariant.same

pub compile_second-returns-in_default-clause-stands : goal.compile_second-returns-in_default-clause-stands
compile_second-returns-in_default-clause-stands t c =
    let P : Ty → Type 0 = λ z. IfOk c.add_nothing.result (λ n. type_at c.add_nothing.new.flat n ≡ z) in
    subst P (second_none (map constructor c.args.types.now) (names_by c.args.names.now) c.args.args.now (omega (arith, c.in_default.len_below))) c.add_nothing.ensures.stands

pub compile_type-returns-in-None-clause-stands : goal.compile_type-returns-in-None-clause-stands
compile_type-returns-in-None-clause-stands t c =
    let P : Ty → Type 0 = λ z. IfOk c.compile_applied.result (λ n. type_at c.compile_applied.new.flat n ≡ z) in
    subst P (ap (λ z. applied_to (map constructor c.args.types.now) (names_by c.args.names.now) c.in-Named.name (exprs_view z)) c.as_slice-in-None.ensures
    ∙ unhidden_is (map constructor c.args.types.now) (names_by c.args.names.now) c.args.e.now _ _ c.in-Named.is c.in-None.ensures) c.compile_applied.ensures.stands
