use Rattle.std.proofs.Common.{◌≡◌, ℕ, ◌+◌, ◌<◌, ◌≤◌, length}
use Rattle.std.specs.Prelude.{None}
use Rattle.bag_cells.specs.Header.{cells}
use Rattle.bag_cells.specs.Trees.{trees, node_refusal}
use Rattle.bag_cells.proofs.trees.cells_of.Given as goal

abbrev pub invariant-cells : goal.invariant-cells
invariant-cells l = record {
  trees_are : l.cells.items ≡ trees l.raw l.made;
  count : length l.cells.items ≡ l.made;
  accepted : (j : ℕ) → cells l.raw ≤ j + l.made → j < cells l.raw → node_refusal l.raw j ≡ None;
}
