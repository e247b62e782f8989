use Rattle.std.proofs.Common.{◌≢◌, [], arith}
use Rattle.std.proofs.lemmas.Grind.{common_steps}
use Rattle.kind_terms.proofs.PartSums.{uses_applied, uses_more, uses_star, uses_sum}
use Rattle.kind_terms.proofs.outs.+occur.Goals as goal

pub occurrences-returns-else-is_empty : goal.occurrences-returns-else-is_empty
occurrences-returns-else-is_empty t c =
    let ne : c.in-Named.args ≢ [] = λ e. grind (arith, common_steps, c.is_empty.ensures, c.if-is_empty.false, e) in
    uses_applied _ _ _ _ _ _ c.in-Named.is c.as_slice.ensures ne c.occurrences_in.ensures

pub occurrences-returns-in-Sum : goal.occurrences-returns-in-Sum
occurrences-returns-in-Sum t c =
    uses_sum _ _ _ _ _ _ _ _ _ _ _ _ _ c.in-Sum.is c.get.ensures c.get-in-Sum.ensures c.as_slice-in-Sum.ensures
    c.occurrences.ensures c.occurrences-in-Sum.ensures c.occurrences_in-in-Sum.ensures
    c.saturating_add.ensures c.saturating_add-in-Sum.ensures

pub occurrences-returns-in-Star : goal.occurrences-returns-in-Star
occurrences-returns-in-Star t c =
    uses_star _ _ _ _ _ _ _ _ _ c.in-Star.is c.get-in-Star.ensures c.get-in-Star-2.ensures c.occurrences-in-Star.ensures c.occurrences-in-Star-2.ensures c.saturating_add-in-Star.ensures

pub occurrences_in-loop-e-preserved : goal.occurrences_in-loop-e-preserved
occurrences_in-loop-e-preserved t c =
    uses_more _ _ _ _ _ _ _ c.loop-e-test.true c.e-item.is c.loop-e.invariant c.occurrences.ensures c.saturating_add-count.ensures
