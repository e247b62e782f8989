use Rattle.std.proofs.Common.{arith, ◌∙◌, sym}
use Rattle.kind_rules.proofs.Totals.{total_step}
use Rattle.kind_rules.proofs.sums.is_past_total.Goals as goal

pub loop-term-preserved : goal.loop-term-preserved
loop-term-preserved c =
    total_step c.args.most 18446744073709551615 _ _ _ _ _ _ _ (omega arith) (omega arith) c.loop-term-test.true c.term-item.is
    c.loop-term.invariant (sym c.is_above.ensures ∙ c.if-is_above.false) c.closed.ensures c.added-total.ensures
