use Rattle.std.proofs.Common.{◌≡◌, drop, map}
use Rattle.tlb_syntax.specs.View.{expr}
use Rattle.kind_rules.specs.Sums.{is_past_total}
use Rattle.kind_rules.proofs.sums.is_past_total.Given as goal

abbrev pub invariant-loop-term : goal.invariant-loop-term
invariant-loop-term l =
    is_past_total l.most l.total (map expr (drop l.term-index l.more)) ≡ is_past_total l.most l.fn.start (map expr l.more)
