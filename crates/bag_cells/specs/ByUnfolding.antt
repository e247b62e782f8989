-- Why raw bytes hold no tree, where the rows on the cells' trees speak of the unfolding of each cell by itself.
--
-- Source: TON documentation, "Bag of cells", "Cells as data storage" (a depth of at most 1024, the mask in the first
-- descriptor byte) and "Exotic cells" (the layouts).
use Rattle.std.specs.Prelude.{◌≡◌, ◌≢◌, ◌<◌, ◌≤◌, ℕ, suc, Some, None, List}
use Rattle.cell_nodes.specs.declared.tree.Tree.{Tree}
use Rattle.cell_nodes.specs.Tree.{mask, deepest, IsShallow, unfolded}
use Rattle.bag_cells.specs.Header.{header_refusal, cells, root}
use Rattle.bag_cells.specs.Cells.{start, reported_mask, cell_refusal, left_refusal}
use Rattle.bag_cells.specs.Trees.{cell_kind}
use Rattle.bag_cells.specs.Unfolds.{Unfolds}
use Rattle.bag_cells.specs.declared.error.BagError.{BagError}
use Rattle.bag_cells.specs.declared.error.BagError.TheVariants.{BadExotic, BadMask, TooDeep, Sprawl}

-- the header is accepted, each cell by itself is, and nothing is left after the last one
pub record IsLaidOut (raw : List ℕ) : Type 0 where
  pub header : header_refusal raw ≡ None
  pub cell_each : (i : ℕ) → i < cells raw → cell_refusal raw i ≡ None
  pub whole : left_refusal raw ≡ None

-- cell i unfolds to a tree of the mask that the cell reports and of no depth above 1024
pub record IsSoundCell (raw : List ℕ) (i : ℕ) : Type 0 where
  pub tree : Tree
  pub unfolds : Unfolds raw i tree
  pub mask_is : mask tree ≡ reported_mask raw (start raw i)
  pub shallow : IsShallow tree

-- the cells from number n on are sound
abbrev pub AreSoundFrom : List ℕ → ℕ → Type 0
AreSoundFrom raw n = (j : ℕ) → n ≤ j → j < cells raw → IsSoundCell raw j

-- the refusal of cell i: an exotic cell without a layout; else, by its unfolding, another mask than it reports; else
-- a depth above 1024
pub data IsUnsoundCell (raw : List ℕ) (i : ℕ) (e : BagError) : Type 0 where
  no_layout : e ≡ BadExotic i → cell_kind raw (start raw i) ≡ None → IsUnsoundCell raw i e
  other_mask : (t : Tree) → e ≡ BadMask i → Unfolds raw i t → mask t ≢ reported_mask raw (start raw i)
      → IsUnsoundCell raw i e
  too_deep : (t : Tree) → e ≡ TooDeep i → Unfolds raw i t → mask t ≡ reported_mask raw (start raw i) → 1024 < deepest t
      → IsUnsoundCell raw i e

-- the first refusal of raw bytes, in the order of the rows
pub data IsFirstRefusal (raw : List ℕ) (e : BagError) : Type 0 where
  by_header : header_refusal raw ≡ Some e → IsFirstRefusal raw e
  by_cell : (i : ℕ) → header_refusal raw ≡ None → i < cells raw → ((j : ℕ) → j < i → cell_refusal raw j ≡ None)
      → cell_refusal raw i ≡ Some e → IsFirstRefusal raw e
  by_length : header_refusal raw ≡ None → ((j : ℕ) → j < cells raw → cell_refusal raw j ≡ None)
      → left_refusal raw ≡ Some e → IsFirstRefusal raw e
  by_tree : (i : ℕ) → IsLaidOut raw → i < cells raw → AreSoundFrom raw (suc i) → IsUnsoundCell raw i e
      → IsFirstRefusal raw e
  by_size : (t : Tree) → IsLaidOut raw → AreSoundFrom raw 0 → Unfolds raw (root raw) t → 262144 < unfolded t
      → e ≡ Sprawl → IsFirstRefusal raw e

-- nothing refuses the raw bytes, which hold the tree
pub record IsAcceptedTree (raw : List ℕ) (t : Tree) : Type 0 where
  pub laid_out : IsLaidOut raw
  pub sound : AreSoundFrom raw 0
  pub unfolds : Unfolds raw (root raw) t
  pub small : unfolded t ≤ 262144
