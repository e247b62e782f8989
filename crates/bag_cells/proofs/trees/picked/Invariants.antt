use Rattle.std.proofs.Common.{◌≡◌, length}
use Rattle.bag_cells.specs.Trees.{picked}
use Rattle.bag_cells.proofs.trees.picked.Given as goal

abbrev pub invariant-refs : goal.invariant-refs
invariant-refs l = record {
  picked_are : l.children.items ≡ picked l.raw l.place l.later l.k;
  count : length l.children.items ≡ l.k;
}
