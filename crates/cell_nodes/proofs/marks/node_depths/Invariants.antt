use Rattle.std.proofs.Common.{◌≡◌, ◌≤◌, ℕ, get_or, length, map}
use Rattle.cell_nodes.specs.Tree.{depth_of, marks}
use Rattle.cell_nodes.proofs.marks.node_depths.Given as goal

abbrev pub invariant-levels : goal.invariant-levels
invariant-levels l = record {
  whole : length l.depths ≡ 4;
  known : (k : ℕ) → k ≤ l.i → get_or l.depths k 0 ≡ depth_of l.kind l.bits (map marks l.children) k;
}
