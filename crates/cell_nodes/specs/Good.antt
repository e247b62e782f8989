-- Trees that a cell may stand for.
--
-- Source: TON documentation, "Cells as data storage" (at most 1023 bits and 4 references, depth at most 1024) and
-- "Exotic cells" (the layouts).
use Rattle.std.specs.Prelude.{◌≤◌, IsTrue, List, [], ◌∷◌, length}
use Rattle.bit_slice.specs.Bits.{AreBits}
use Rattle.cell_nodes.specs.declared.tree.Tree.{Tree, out-Tree}
use Rattle.cell_nodes.specs.Layout.{has_layout}
use Rattle.cell_nodes.specs.Tree.{IsShallow}

-- the root of the tree is within the limits, and has the layout of its kind
pub record IsSound (t : Tree) : Type 0 where
  pub bits : AreBits (out-Tree t).bits
  pub short : length (out-Tree t).bits ≤ 1023
  pub few : length (out-Tree t).children ≤ 4
  pub layout : IsTrue (has_layout (out-Tree t).kind (out-Tree t).bits (length (out-Tree t).children))
  pub shallow : IsShallow t

-- every node of the tree is sound
mutual
  pub data IsGood : Tree → Type 0 where
    good : (t : Tree) → IsSound t → AllGood (out-Tree t).children → IsGood t

  pub data AllGood : List Tree → Type 0 where
    none : AllGood []
    more : (t : Tree) (ts : List Tree) → IsGood t → AllGood ts → AllGood (t ∷ ts)
