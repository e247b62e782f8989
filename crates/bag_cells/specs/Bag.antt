-- What tree a file holds as a bag of cells, and why a file holds none.
use Rattle.std.specs.Prelude.{◌≡◌, ◌≢◌, ℕ, Option, Some, None, Result, Ok, Err, List, [], ◌∷◌}
use Rattle.cell_nodes.specs.declared.tree.Tree.{Tree}
use Rattle.bag_cells.specs.First.{first_of, first_before, last_before}
use Rattle.bag_cells.specs.Form.{raw_of}
use Rattle.bag_cells.specs.Header.{header_refusal, cells, root}
use Rattle.bag_cells.specs.Cells.{cell_refusal, left_refusal}
use Rattle.bag_cells.specs.Trees.{node_refusal, sprawl_refusal}
use Rattle.bag_cells.specs.Unfolds.{Unfolds}
use Rattle.bag_cells.specs.declared.error.BagError.{BagError}
use Rattle.bag_cells.specs.declared.error.BagError.TheVariants.{NoMemory}

-- The first refusal that the raw bytes give: that of the header, then of the cells from the first to the last,
-- then of what is left after them, then of the cells' trees from the last cell to the first, then of the root's.
unfoldable pub refusal : List ℕ → Option BagError
refusal raw = first_of (
    header_refusal raw
    ∷ first_before (cell_refusal raw) (cells raw)
    ∷ left_refusal raw
    ∷ last_before (node_refusal raw) (cells raw)
    ∷ sprawl_refusal raw
    ∷ [])

-- the file holds the tree: it has a form, nothing refuses its raw bytes, and the tree is the unfolding of its root cell
pub record BagHolds (file : List ℕ) (tree : Tree) : Type 0 where
  pub raw : List ℕ
  pub form : raw_of file ≡ Ok raw
  pub accepted : refusal raw ≡ None
  pub unfolded : Unfolds raw (root raw) tree

-- the file is refused: by its form, or by its raw bytes
pub data BagRefused (file : List ℕ) (error : BagError) : Type 0 where
  form : raw_of file ≡ Err error → BagRefused file error
  content : (raw : List ℕ) → raw_of file ≡ Ok raw → refusal raw ≡ Some error → BagRefused file error

-- whatever the answer is but out of memory, it is so
abbrev pub IfAnswered : {X : Type 0} → Result X BagError → (X → Type 0) → (BagError → Type 0) → Type 0
IfAnswered (Ok x) P Q = P x
IfAnswered (Err e) P Q = e ≢ NoMemory → Q e
