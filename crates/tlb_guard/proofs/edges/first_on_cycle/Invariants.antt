use Rattle.std.proofs.Common.{◌≡◌, ℕ, ◌<◌, length, get_or, false}
use Rattle.tlb_guard.specs.declared.edges.Edge.{Edge}
use Rattle.tlb_guard.specs.Edges.{AreSearches, is_round_trip}
use Rattle.tlb_guard.proofs.edges.first_on_cycle.Given as goal

abbrev pub invariant-loop-edge : goal.invariant-loop-edge
invariant-loop-edge l = record {
  size : length l.searches.items ≡ l.count;
  searches : AreSearches l.edges l.searches.items;
  none : (k : ℕ) (d : Edge) → k < l.edge-index → is_round_trip l.edges (get_or l.edges k d) ≡ false;
}
