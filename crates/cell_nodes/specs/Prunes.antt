-- Trees with parts of them pruned.
--
-- Source: TON documentation, "Exotic cells" (pruned branch cells, Merkle proof cells).
use Rattle.std.specs.Prelude.{ℕ, suc, ◌≤◌, List, [], ◌∷◌}
use Rattle.cell_nodes.specs.declared.tree.Kind.TheVariants.{Ordinary, Proof}
use Rattle.cell_nodes.specs.declared.tree.Tree.{Tree}
use Rattle.cell_nodes.specs.Constructed.{stub}
use Rattle.cell_nodes.specs.Tree.{tree_of}

mutual
  -- the second tree is the first with parts of it pruned, below i proofs
  pub data Prunes : Tree → Tree → ℕ → Type 0 where
    same : (t : Tree) (i : ℕ) → Prunes t t i
    hidden : (t : Tree) (i : ℕ) → i ≤ 2 → Prunes t (stub t i) i
    ordinary : (bits : List ℕ) (ts ps : List Tree) (i : ℕ) → AllPrune ts ps i
        → Prunes (tree_of Ordinary bits ts) (tree_of Ordinary bits ps) i
    proof : (bits : List ℕ) (t p : Tree) (i : ℕ) → i ≤ 2 → Prunes t p (suc i)
        → Prunes (tree_of Proof bits (t ∷ [])) (tree_of Proof bits (p ∷ [])) i

  -- pairwise
  pub data AllPrune : List Tree → List Tree → ℕ → Type 0 where
    none : (i : ℕ) → AllPrune [] [] i
    more : (t p : Tree) (ts ps : List Tree) (i : ℕ) → Prunes t p i → AllPrune ts ps i → AllPrune (t ∷ ts) (p ∷ ps) i
