-- The unfolding of a cell of a bag: the tree whose children are the unfoldings of the cells that the cell refers to.
--
-- Source: the TVM whitepaper, section 3.1 (a cell with its references is seen as a tree, whose subtrees may be equal);
-- TON documentation, "Bag of cells".
use Rattle.std.specs.Prelude.{◌≡◌, ℕ, zero, suc, Some, List, [], ◌∷◌, ◌++◌}
use Rattle.cell_nodes.specs.declared.tree.Kind.{Kind}
use Rattle.cell_nodes.specs.declared.tree.Tree.{Tree}
use Rattle.cell_nodes.specs.Tree.{tree_of}
use Rattle.bag_cells.specs.Cells.{ref_count, ref_at, start}
use Rattle.bag_cells.specs.Trees.{cell_bits, cell_kind}

mutual
  -- the tree is the unfolding of cell i
  pub data Unfolds (raw : List ℕ) : ℕ → Tree → Type 0 where
    cell : (i : ℕ) (kind : Kind) (children : List Tree) → cell_kind raw (start raw i) ≡ Some kind
        → UnfoldEach raw (start raw i) (ref_count raw (start raw i)) children
        → Unfolds raw i (tree_of kind (cell_bits raw (start raw i)) children)

  -- the trees are the unfoldings of the cells that the first n references of the cell at the place name
  pub data UnfoldEach (raw : List ℕ) : ℕ → ℕ → List Tree → Type 0 where
    none : (place : ℕ) → UnfoldEach raw place zero []
    more : (place n : ℕ) (before : List Tree) (last : Tree) → UnfoldEach raw place n before
        → Unfolds raw (ref_at raw place n) last
        → UnfoldEach raw place (suc n) (before ++ last ∷ [])
