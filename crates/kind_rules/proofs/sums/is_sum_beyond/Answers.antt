use Rattle.std.proofs.Common.{arith}
use Rattle.kind_rules.proofs.Totals.{sum_past}
use Rattle.kind_rules.proofs.sums.is_sum_beyond.Goals as goal

pub returns : goal.returns
returns c =
    sum_past c.args.most 18446744073709551615 _ _ _ _ _ _ _ (omega (arith, c.ranges.most.fits)) (omega arith)
    c.closed.ensures c.closed-2.ensures c.added.ensures c.is_past_total.ensures
