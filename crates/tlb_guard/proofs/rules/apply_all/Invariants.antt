use Rattle.std.proofs.Common.{ℕ, ◌<◌, List, get_or}
use Rattle.tlb_guard.specs.declared.rules.Rule.{Rule}
use Rattle.tlb_guard.specs.Facts.{holds, IsSearch, Extends, IsSound, IsServed}
use Rattle.tlb_guard.proofs.rules.apply_all.Given as goal

abbrev pub invariant-loop-rule : goal.invariant-loop-rule
invariant-loop-rule l = record {
  search : IsSearch l.state;
  extends : Extends l.fn.state l.state;
  served : (k : ℕ) (d : Rule) → k < l.rule-index → IsServed l.state 0 (get_or l.rules k d);
  sound : (seeds : List ℕ) → IsSound l.rules seeds (holds l.fn.state.found) → IsSound l.rules seeds (holds l.state.found);
}
