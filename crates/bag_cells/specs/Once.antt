-- A bag that lists each distinct cell exactly once.
use Rattle.std.specs.Prelude.{◌≡◌, ℕ, Some, List, length, reverse, slice_get}
use Rattle.cell_nodes.specs.declared.tree.Tree.{Tree}
use Rattle.cell_pool.specs.Post.{post}
use Rattle.bag_cells.specs.Header.{cells}
use Rattle.bag_cells.specs.Unfolds.{Unfolds}

-- It has as many cells as the tree has distinct subtrees, and they unfold to these, the last one first.
pub record ListsEachOnce (raw : List ℕ) (t : Tree) : Type 0 where
  pub count : cells raw ≡ length (post t)
  pub cell_each : (i : ℕ) (u : Tree) → slice_get (reverse (post t)) i ≡ Some u → Unfolds raw i u
