-- A file holds one tree or has one refusal, and not both.
use Rattle.std.specs.Prelude.{◌≡◌, ℕ, List}
use Rattle.std.proofs.Common.{subst, arith}
use Rattle.cell_nodes.specs.declared.tree.Tree.{Tree}
use Rattle.bag_cells.specs.Header.{root}
use Rattle.bag_cells.specs.Unfolds.{Unfolds}
use Rattle.bag_cells.specs.Bag.{BagHolds, BagRefused}
use Rattle.bag_cells.specs.UnfoldsLaws.{unfolds_once}
use Rattle.bag_cells.specs.declared.error.BagError.{BagError}

pub holds_once : (file : List ℕ) (a b : Tree) → BagHolds file a → BagHolds file b → a ≡ b
holds_once file a b h k =
    let same : h.raw ≡ k.raw = cc (h.form, k.form) in
    let moved = subst (λ (raw : List ℕ). Unfolds raw (root raw) a) same h.unfolded in
    unfolds_once k.raw (root k.raw) a b moved k.unfolded

pub refused_once : (file : List ℕ) (a b : BagError) → BagRefused file a → BagRefused file b → a ≡ b
refused_once file a b h k = grind arith

pub not_both : (file : List ℕ) (t : Tree) (e : BagError) → BagHolds file t → BagRefused file e → ⊥
not_both file t e h k = grind arith
