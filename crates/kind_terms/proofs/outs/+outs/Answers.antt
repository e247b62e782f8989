use Rattle.kind_terms.proofs.PartSums.{outs_more, outs_star, outs_sum}
use Rattle.kind_terms.proofs.outs.+outs.Goals as goal

pub outs_in-returns-in-Sum : goal.outs_in-returns-in-Sum
outs_in-returns-in-Sum t c =
    outs_sum _ _ _ _ _ _ _ _ _ _ _ _ c.in-Sum.is c.get.ensures c.get-in-Sum.ensures c.as_slice-in-Sum.ensures
    c.outs_in.ensures c.outs_in-in-Sum.ensures c.outs_in_all-in-Sum.ensures c.joined.ensures c.joined-in-Sum.ensures

pub outs_in-returns-in-Star : goal.outs_in-returns-in-Star
outs_in-returns-in-Star t c =
    outs_star _ _ _ _ _ _ _ _ c.in-Star.is c.get-in-Star.ensures c.get-in-Star-2.ensures c.outs_in-in-Star.ensures c.outs_in-in-Star-2.ensures c.joined-in-Star.ensures

pub outs_in_all-loop-e-preserved : goal.outs_in_all-loop-e-preserved
outs_in_all-loop-e-preserved t c =
    outs_more _ _ _ _ _ _ c.loop-e-test.true c.e-item.is c.loop-e.invariant c.outs_in.ensures c.joined-outs.ensures
