-- Trees that references pick, and trees of the last cells.
use Rattle.std.proofs.Common.{◌≡◌, ◌∙◌, ℕ, zero, suc, length, get_or, ◌+◌, ◌-◌, ◌<◌, ◌≤◌, List, [], ◌∷◌, ◌++◌, refl, subst, arith, add-one}
use Rattle.std.specs.Prelude.{Option, Some, slice_get}
use Rattle.std.proofs.lemmas.Option.{slice_get_read}
use Rattle.cell_nodes.specs.declared.tree.Tree.{Tree}
use Rattle.bag_cells.specs.Header.{cells}
use Rattle.bag_cells.specs.Cells.{reported_mask, ref_at, start}
use Rattle.bag_cells.specs.Trees.{picked, node, trees, refusal_of, node_refusal}
use Rattle.bag_cells.specs.Known.{IsLater}
use Rattle.bag_cells.specs.declared.error.BagError.{BagError}

pub picked-more : (raw : List ℕ) (place : ℕ) (later : List Tree) (k : ℕ) (t : Tree) → slice_get later (cells raw - 1 - ref_at raw place k) ≡ Some t
    → picked raw place later (k + 1) ≡ picked raw place later k ++ t ∷ []
unfolding picked
picked-more raw place later k t h = rw (add-one, h) refl

pub trees-more : (raw : List ℕ) (n : ℕ) (t : Tree) → node raw (start raw (cells raw - 1 - n)) (trees raw n) ≡ Some t
    → trees raw (n + 1) ≡ trees raw n ++ t ∷ []
unfolding trees
trees-more raw n t h = rw (add-one, h) refl

-- the refusal of the cell before the last n, whose trees are known
pub refusal_before : (raw : List ℕ) (i n : ℕ) → i + 1 + n ≡ cells raw
    → node_refusal raw i ≡ refusal_of i (reported_mask raw (start raw i)) (node raw (start raw i) (trees raw n))
unfolding node_refusal
refusal_before raw i n h =
    let e : cells raw - 1 - i ≡ n = omega arith in
    rw e refl

-- the tree that a reference picks
pub picked_at : (raw : List ℕ) (i cell place : ℕ) (later : List Tree) (t : Tree) → IsLater raw i cell → length later + 1 + i ≡ cells raw
    → place ≡ cells raw - 1 - cell → t ≡ get_or later place t → slice_get later (cells raw - 1 - cell) ≡ Some t
picked_at raw i cell place later t h count e is =
    subst (λ (m : ℕ). slice_get later m ≡ Some t) e
    (slice_get_read later (length later) place t refl (omega (arith, h.later, h.there)) is)

pub refusal_now : (raw : List ℕ) (i n place : ℕ) (later : List Tree) (r : Option BagError) → i + 1 + n ≡ cells raw → place ≡ start raw i → later ≡ trees raw n
    → refusal_of i (reported_mask raw place) (node raw place later) ≡ r → node_refusal raw i ≡ r
refusal_now raw i n place later r h p l found =
    refusal_before raw i n h
    ∙ subst (λ (q : ℕ). refusal_of i (reported_mask raw q) (node raw q (trees raw n)) ≡ r) p
    (subst (λ (ts : List Tree). refusal_of i (reported_mask raw place) (node raw place ts) ≡ r) l found)

pub trees_now : (raw : List ℕ) (i n place : ℕ) (later : List Tree) (t : Tree) → i + 1 + n ≡ cells raw → place ≡ start raw i → later ≡ trees raw n
    → node raw place later ≡ Some t → trees raw (n + 1) ≡ trees raw n ++ t ∷ []
trees_now raw i n place later t h p l found =
    let e : i ≡ cells raw - 1 - n = omega arith in
    trees-more raw n t
    (subst (λ (m : ℕ). node raw (start raw m) (trees raw n) ≡ Some t) e
    (subst (λ (q : ℕ). node raw q (trees raw n) ≡ Some t) p
    (subst (λ (ts : List Tree). node raw place ts ≡ Some t) l found)))

-- what holds at i, and above it, holds from i on
pub at_or_above : (i j : ℕ) (P : ℕ → Type 0) → i ≤ j → P i → (i < j → P j) → P j
at_or_above zero zero P h here above = here
at_or_above zero (suc j) P h here above = above (omega arith)
at_or_above (suc i) zero P h here above = absurd (omega arith)
at_or_above (suc i) (suc j) P h here above =
    at_or_above i j (λ (m : ℕ). P (suc m)) (omega arith) here (λ (l : i < j). above (omega arith))
