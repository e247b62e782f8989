-- The nodes of a tree that stand below ordinary nodes alone.
use Rattle.std.specs.Prelude.{◌≡◌, ℕ, List, Some, slice_get}
use Rattle.cell_nodes.specs.Tree.{tree_of}
use Rattle.cell_nodes.specs.declared.tree.Kind.TheVariants.{Ordinary}
use Rattle.cell_nodes.specs.declared.tree.Tree.{Tree}

-- the first is the second, or stands so in a child of it, which is ordinary
pub data StandsIn : Tree → Tree → Type 0 where
  here : (t : Tree) → StandsIn t t
  below : (n : Tree) (bits : List ℕ) (ts : List Tree) (i : ℕ) (t : Tree) → slice_get ts i ≡ Some t → StandsIn n t
      → StandsIn n (tree_of Ordinary bits ts)
