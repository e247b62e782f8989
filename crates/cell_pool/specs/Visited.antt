-- What a walk over a pool's nodes has visited so far.
use Rattle.std.specs.Prelude.{◌≡◌, ℕ, ◌<◌, Bool, false, List, [], length, map, slice_index_or}
use Rattle.std.specs.List.{All}
use Rattle.cell_nodes.specs.declared.tree.Kind.TheVariants.{Ordinary}
use Rattle.cell_nodes.specs.declared.tree.Tree.{Tree}
use Rattle.cell_nodes.specs.Tree.{tree_of}
use Rattle.cell_pool.specs.Post.{stands}
use Rattle.cell_pool.specs.Listing.{IsOrdered}

-- the tree at a place of the list; past its end the empty cell's
abbrev pub tree_at : List Tree → ℕ → Tree
tree_at trees i = slice_index_or trees i (tree_of Ordinary [] [])

-- the trees that the numbers mean
abbrev pub trees_at : List Tree → List ℕ → List Tree
trees_at trees numbers = map (tree_at trees) numbers

-- the nodes of these numbers were visited, each after its children, and exactly they are marked
pub record IsVisited (trees : List Tree) (done : List Bool) (numbers : List ℕ) : Type 0 where
  pub count : length done ≡ length trees
  pub there : All (λ n. n < length trees) numbers
  pub marks : (i : ℕ) → i < length trees
      → slice_index_or done i false ≡ stands (trees_at trees numbers) (tree_at trees i)
  pub ordered : IsOrdered (trees_at trees numbers)
