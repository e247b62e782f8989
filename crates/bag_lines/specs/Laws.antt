-- What the laws say: facts about the definitions alone.
use Rattle.std.specs.Prelude.{◌≤◌, ◌<◌, ◌^◌, ℕ, [], ◌∷◌, ◌++◌, length}
use Rattle.hex.specs.Hex.{encode_lower}
use Rattle.bag_cells.specs.Bag.{BagHolds}
use Rattle.bag_cells.specs.Written.{bag_of, width_of}
use Rattle.cell_nodes.specs.Good.{IsGood}
use Rattle.cell_nodes.specs.Tree.{unfolded}
use Rattle.cell_nodes.specs.declared.tree.Tree.{Tree}

-- a file with the written bag in lower case digits and a line feed holds the tree, and has at most 134,217,728 bytes
pub record HoldsLine (t : Tree) : Type 0 where
  pub holds : BagHolds (encode_lower (bag_of t) ++ 10 ∷ []) t
  pub short : length (encode_lower (bag_of t) ++ 10 ∷ []) ≤ 134217728

-- so it is of each good tree of at most 262,144 cells
abbrev pub LineHolds : Type 0
LineHolds = (t : Tree) → IsGood t → unfolded t ≤ 262144 → HoldsLine t

-- ---- what it rests on

abbrev pub WrittenHolds : Type 0
WrittenHolds = (t : Tree) → IsGood t → unfolded t ≤ 262144 → BagHolds (bag_of t) t

abbrev pub WidthIsLeast : Type 0
WidthIsLeast = (n w : ℕ) → 1 ≤ w → n < 256 ^ w → width_of n ≤ w
