use Rattle.std.proofs.Common.{◌≡◌, ℕ, ◌<◌, List, true, get_or}
use Rattle.tlb_guard.specs.declared.rules.Rule.{Rule}
use Rattle.tlb_guard.specs.Facts.{holds, IsSearch, Extends, IsSound}
use Rattle.tlb_guard.proofs.rules.add_all.Given as goal

abbrev pub invariant-loop-fact : goal.invariant-loop-fact
invariant-loop-fact l = record {
  search : IsSearch l.state;
  extends : Extends l.fn.state l.state;
  seeded : (k : ℕ) → k < l.fact-index → holds l.state.found (get_or l.facts k 0) ≡ true;
  sound : (rules : List Rule) → IsSound rules l.facts (holds l.fn.state.found) → IsSound rules l.facts (holds l.state.found);
}
