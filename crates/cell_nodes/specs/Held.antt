-- What a cell builder holds.
use Rattle.std.specs.Prelude.{ℕ, List}
use Rattle.cell_nodes.specs.declared.tree.Tree.{Tree}

-- the bits and the references of a cell to be
pub record Held : Type 0 where
  pub bits : List ℕ
  pub refs : List Tree
