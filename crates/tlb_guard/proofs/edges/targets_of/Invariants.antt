use Rattle.std.proofs.Common.{◌≡◌, ℕ, ◌<◌, length, get_or}
use Rattle.tlb_guard.specs.declared.edges.Edge.{Edge}
use Rattle.tlb_guard.specs.Users.{AreNumbersBelow, HasUser}
use Rattle.tlb_guard.proofs.edges.targets_of.Given as goal

abbrev pub invariant-loop-edge : goal.invariant-loop-edge
invariant-loop-edge l = record {
  size : length l.targets.items ≡ l.count;
  below : AreNumbersBelow l.count l.targets.items;
  targets : (k : ℕ) (d : Edge) → k < l.edge-index → HasUser l.targets.items (get_or l.edges k d).from (get_or l.edges k d).to;
}
