use Rattle.std.proofs.Common.{ℕ, ◌-◌, ◌<◌, ◌≤◌, List, length, get_or}
use Rattle.tlb_guard.specs.declared.rules.Rule.{Rule}
use Rattle.tlb_guard.specs.Facts.{holds, IsSearch, Extends, IsSound, IsServed}
use Rattle.tlb_guard.proofs.rules.finish.Given as goal

abbrev pub invariant-loop-next : goal.invariant-loop-next
invariant-loop-next l = record {
  search : IsSearch l.state;
  extends : Extends l.fn.state l.state;
  within : l.next ≤ length l.state.queue;
  served : (k : ℕ) (d : Rule) → k < length l.rules → IsServed l.state l.next (get_or l.rules k d);
  sound : (seeds : List ℕ) → IsSound l.rules seeds (holds l.fn.state.found) → IsSound l.rules seeds (holds l.state.found);
}

abbrev pub decreases-loop-next : goal.decreases-loop-next
decreases-loop-next l = length l.state.found - l.next
