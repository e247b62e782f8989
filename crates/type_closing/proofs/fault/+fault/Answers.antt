use Rattle.std.proofs.Common.{◌∙◌, ap, refl, sym, Some}
use Rattle.tlb_syntax.specs.View.{exprs}
use Rattle.kind_terms.specs.SumLaws.{of_sum}
use Rattle.kind_terms.specs.ViewLaws.{count_seen}
use Rattle.type_index.specs.Index.{kinds_at}
use Rattle.type_closing.specs.Faults.{arguments_fault, kind_mismatch, type_called, type_fault}
use Rattle.type_closing.specs.Views.{name_by}
use Rattle.type_closing.proofs.Turns.{arguments_turn, goes, named_fault, stops}
use Rattle.type_closing.proofs.fault.+fault.Goals as goal

pub type_fault-returns-then-is_some-2 : goal.type_fault-returns-then-is_some-2
type_fault-returns-then-is_some-2 t c =
    stops _ _ c.name_fault-fault.result c.name_fault-fault.ensures (sym c.is_some-in-Named.ensures ∙ c.if-is_some-2.true)
    ∙ named_fault (kinds_at c.args.types.now) (name_by c.args.holder) _ c.in-Named.args _ _ _ c.in-Named.is
    (c.type_called-named.ensures ∙ ap (type_called (kinds_at c.args.types.now)) c.text.ensures.value)
    (c.len.ensures ∙ count_seen c.in-Named.args)

pub type_fault-returns-else-is_some-2 : goal.type_fault-returns-else-is_some-2
type_fault-returns-else-is_some-2 t c =
    let d = kinds_at c.args.types.now in
    c.arguments_fault-in-Named.ensures
    ∙ (λ i. arguments_fault d (Some c.in-Named.name) (c.parameters.ensures i) (exprs (c.as_slice-in-Named.ensures i)))
    ∙ goes _ _ c.name_fault-fault.result c.name_fault-fault.ensures (sym c.is_some-in-Named.ensures ∙ c.if-is_some-2.false)
    ∙ named_fault d (name_by c.args.holder) _ c.in-Named.args _ _ _ c.in-Named.is
    (c.type_called-named.ensures ∙ ap (type_called d) c.text.ensures.value)
    (c.len.ensures ∙ count_seen c.in-Named.args)

pub type_fault-returns-in-Sum : goal.type_fault-returns-in-Sum
type_fault-returns-in-Sum t c =
    of_sum (type_fault (kinds_at c.args.types.now) (name_by c.args.holder)) (Some (kind_mismatch (name_by c.args.holder)))
    (λ a b. refl) _ _ _ _ c.in-Sum.is

pub arguments_fault-returns-then-is_some : goal.arguments_fault-returns-then-is_some
arguments_fault-returns-then-is_some t c =
    stops _ _ c.argument_fault-fault.result c.argument_fault-fault.ensures (sym c.is_some.ensures ∙ c.if-is_some.true)
    ∙ arguments_turn (kinds_at c.args.types.now) (name_by c.args.holder) c.args.kinds.now c.args.args.now c.loop-place.place
    c.index-args-place.result c.kind_at.result c.loop-place-test.true c.index-args-place.is c.kind_at.ensures
    ∙ c.loop-place.invariant
