use Rattle.std.proofs.Common.{◌≡◌, ◌||◌}
use Rattle.std.specs.List.{list_any}
use Rattle.tlb_syntax.specs.View.{expr}
use Rattle.kind_terms.specs.Forms.{parts}
use Rattle.kind_terms.specs.Sought.{cancels}
use Rattle.kind_terms.proofs.PartSums.{cancels_in_rest, cancels_in_two, first_cancels, second_cancels}
use Rattle.kind_terms.proofs.outs.+cancel.Goals as goal
use Rattle.kind_terms.proofs.outs.+cancel.Goals.{cancels-then-cancels, cancels-else-cancels}

pub cancels-returns-then-cancels-2 : goal.cancels-returns-then-cancels-2
cancels-returns-then-cancels-2 t c =
    let two : c.if-cancels.value ≡ (list_any cancels (parts (expr c.in-Sum.first)) || list_any cancels (parts (expr c.in-Sum.second))) =
    elim c.if-cancels.branch [
      | cancels-then-cancels w ↦ first_cancels _ _ _ _ _ c.get.ensures c.cancels.ensures w.if-cancels.true w.value-is
      | cancels-else-cancels w ↦
          second_cancels _ _ _ _ _ _ _ c.get.ensures c.cancels.ensures w.if-cancels.false w.get-else-cancels.ensures w.cancels-else-cancels.ensures w.value-is
    ] in
    cancels_in_two _ _ _ _ _ c.in-Sum.is two c.if-cancels-2.true

pub cancels-returns-else-cancels-2 : goal.cancels-returns-else-cancels-2
cancels-returns-else-cancels-2 t c =
    let two : c.if-cancels.value ≡ (list_any cancels (parts (expr c.in-Sum.first)) || list_any cancels (parts (expr c.in-Sum.second))) =
    elim c.if-cancels.branch [
      | cancels-then-cancels w ↦ first_cancels _ _ _ _ _ c.get.ensures c.cancels.ensures w.if-cancels.true w.value-is
      | cancels-else-cancels w ↦
          second_cancels _ _ _ _ _ _ _ c.get.ensures c.cancels.ensures w.if-cancels.false w.get-else-cancels.ensures w.cancels-else-cancels.ensures w.value-is
    ] in
    cancels_in_rest _ _ _ _ _ _ _ c.in-Sum.is two c.if-cancels-2.false c.as_slice-else-cancels-2.ensures c.cancels_in-else-cancels-2.ensures
