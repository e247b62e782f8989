use Rattle.std.proofs.Common.{◌≡◌, ◌≤◌, ◌-◌, ◌^◌, drop, map}
use Rattle.std.specs.Prelude.{Some}
use Rattle.std.specs.List.{fold}
use Rattle.tlb_syntax.specs.View.{expr}
use Rattle.kind_terms.specs.Closed.{closed_total}
use Rattle.kind_terms.proofs.Capped.{capped, with_closed}
use Rattle.kind_terms.proofs.numbers.+closed.Given as goal

abbrev pub invariant-closed_total-loop-term : goal.invariant-closed_total-loop-term
invariant-closed_total-loop-term l = record {
  within : l.total ≤ 2 ^ 64 - 1;
  same : capped (fold with_closed (Some l.total) (map expr (drop l.term-index l.terms))) ≡ capped (closed_total (map expr l.terms));
}
