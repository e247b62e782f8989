use Rattle.std.proofs.Common.{ℕ, ◌<◌, ◌≤◌, List, length, get_or}
use Rattle.tlb_guard.specs.declared.rules.Rule.{Rule}
use Rattle.tlb_guard.specs.Facts.{holds, IsSearch, Extends, IsSound, IsServed}
use Rattle.tlb_guard.proofs.rules.apply_users.Given as goal

abbrev pub invariant-loop-rule : goal.invariant-loop-rule
invariant-loop-rule l = record {
  search : IsSearch l.state;
  extends : Extends l.fn.state l.state;
  served : (n : ℕ) → n ≤ length l.fn.state.queue → (i : ℕ) (d : Rule) → i < l.rule-index → IsServed l.state n (get_or l.rules (get_or l.users i 0) d);
  sound : (seeds : List ℕ) → IsSound l.rules seeds (holds l.fn.state.found) → IsSound l.rules seeds (holds l.state.found);
}
