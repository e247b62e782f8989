-- A cell has one unfolding.
use Rattle.std.specs.Prelude.{◌≡◌, ℕ, Option, Some, List}
use Rattle.std.proofs.Common.{refl}
use Rattle.cell_nodes.specs.declared.tree.Kind.{Kind}
use Rattle.cell_nodes.specs.declared.tree.Tree.{Tree}
use Rattle.bag_cells.specs.Cells.{ref_count, ref_at, start}
use Rattle.bag_cells.specs.Trees.{cell_kind}
use Rattle.bag_cells.specs.Unfolds.{Unfolds, cell, UnfoldEach, none, more}

kind_once : {a b : Kind} (o : Option Kind) → o ≡ Some a → o ≡ Some b → a ≡ b
kind_once o h k = cc

mutual
  pub unfolds_once : (raw : List ℕ) (i : ℕ) (a b : Tree) → Unfolds raw i a → Unfolds raw i b → a ≡ b
  unfolds_once raw i a b (cell i' k cs h each) (cell i'' l ds g others) =
      rw (
        kind_once (cell_kind raw (start raw i)) h g,
        each_once raw (start raw i) (ref_count raw (start raw i)) cs ds each others,
      ) refl

  each_once : (raw : List ℕ) (place n : ℕ) (xs ys : List Tree)
      → UnfoldEach raw place n xs → UnfoldEach raw place n ys → xs ≡ ys
  each_once raw place n xs ys (none place') (none place'') = refl
  each_once raw place n xs ys (more place' m cs c each last) (more place'' m' ds d others final) =
      rw (each_once raw place m cs ds each others, unfolds_once raw (ref_at raw place m) c d last final) refl
