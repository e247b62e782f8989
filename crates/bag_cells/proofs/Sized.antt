-- The size of the tree that a file holds.
use Rattle.std.proofs.Common.{◌≡◌, Bool, true, false, if◌then◌else◌, ℕ, ◌≤◌, List, [], ◌∷◌, subst, refl, arith}
use Rattle.std.specs.Prelude.{Option, Some, None, Result, nat_lt, ⊤}
use Rattle.std.proofs.lemmas.Bool.Decides.{nat_tests}
use Rattle.cell_nodes.specs.declared.tree.Tree.{Tree}
use Rattle.cell_nodes.specs.Tree.{unfolded}
use Rattle.bag_cells.specs.First.{first_of, first_before, last_before}
use Rattle.bag_cells.specs.Header.{cells, root, header_refusal}
use Rattle.bag_cells.specs.Cells.{cell_refusal, left_refusal}
use Rattle.bag_cells.specs.Trees.{node_refusal, sprawl_of, sprawl_refusal, root_tree}
use Rattle.bag_cells.specs.Bag.{refusal, BagHolds, BagRefused, IfAnswered}
use Rattle.bag_cells.specs.declared.error.BagError.{BagError}
use Rattle.bag_cells.specs.declared.error.BagError.TheVariants.{Sprawl}
use Rattle.bag_cells.proofs.Nones.{none_first, none_second}
use Rattle.bag_cells.specs.Unfolds.{Unfolds}
use Rattle.bag_cells.specs.UnfoldsLaws.{unfolds_once}
use Rattle.bag_cells.proofs.Unfolding.{root_unfolds}
use Rattle.bag_cells.proofs.Held.{root_found}
use Rattle.bag_cells.proofs.Answered.{answered_so}

sprawl-none : (raw : List ℕ) → refusal raw ≡ None → sprawl_refusal raw ≡ None
unfolding refusal
sprawl-none raw h =
    let last = first_of (sprawl_refusal raw ∷ []) in
    let trees = first_of (last_before (node_refusal raw) (cells raw) ∷ sprawl_refusal raw ∷ []) in
    let left = first_of (left_refusal raw ∷ last_before (node_refusal raw) (cells raw) ∷ sprawl_refusal raw ∷ []) in
    let each =
    first_of
    (first_before (cell_refusal raw) (cells raw) ∷ left_refusal raw ∷ last_before (node_refusal raw) (cells raw) ∷ sprawl_refusal raw ∷ []) in
    let h1 = none_second (header_refusal raw) each h in
    let h2 = none_second (first_before (cell_refusal raw) (cells raw)) left h1 in
    let h3 = none_second (left_refusal raw) trees h2 in
    none_first (sprawl_refusal raw) None (none_second (last_before (node_refusal raw) (cells raw)) last h3)

lt_false : (m n : ℕ) → nat_lt m n ≡ false → n ≤ m
lt_false m n h = grind (arith, nat_tests)

small_by : (n : ℕ) (b : Bool) → nat_lt 262144 n ≡ b → (if b then Some Sprawl else None) ≡ None → n ≤ 262144
small_by n true e h = absurd (cc)
small_by n false e h = lt_false 262144 n e

root_small : (raw : List ℕ) (t : Tree) → root_tree raw ≡ Some t → sprawl_refusal raw ≡ None → unfolded t ≤ 262144
unfolding sprawl_refusal
root_small raw t e h =
    let k : sprawl_of (Some t) ≡ None = subst (λ (o : Option Tree). sprawl_of o ≡ None) e h in
    small_by (unfolded t) (nat_lt 262144 (unfolded t)) refl k

-- raw bytes that nothing refuses have a root that is not too large
pub raw_small : (raw : List ℕ) (t : Tree) → refusal raw ≡ None → Unfolds raw (root raw) t → unfolded t ≤ 262144
raw_small raw t accepted h =
    let found = root_found raw accepted in
    let same = unfolds_once raw (root raw) found.0 t (root_unfolds raw found.0 accepted found.1) h in
    subst (λ (u : Tree). unfolded u ≤ 262144) same (root_small raw found.0 found.1 (sprawl-none raw accepted))

pub held_small : (file : List ℕ) (t : Tree) → BagHolds file t → unfolded t ≤ 262144
held_small file t h = raw_small h.raw t h.accepted h.unfolded

pub answers_small : (file : List ℕ) (r : Result Tree BagError) → IfAnswered r (λ t. BagHolds file t) (λ e. BagRefused file e)
    → IfAnswered r (λ t. unfolded t ≤ 262144) (λ _. ⊤)
answers_small file r h =
    answered_so r (λ t. BagHolds file t) (λ t. unfolded t ≤ 262144) (λ e. BagRefused file e) (λ _. ⊤) h
    (λ t k. held_small file t k)
    (λ e k. tt)
