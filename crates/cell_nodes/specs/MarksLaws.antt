-- Laws on what is known of a node.
use Rattle.std.specs.Prelude.{◌≡◌, ◌≢◌, ℕ, suc, ◌+◌, ◌%◌, ◌^◌, ◌≤◌, ◌<◌, List, length, map}
use Rattle.std.specs.Int.{bit_at}
use Rattle.std.proofs.Common.{arith, ap, sym, subst, ◌∙◌, refl, ◌-◌, ⊎_elim}
use Rattle.std.proofs.lemmas.Bool.{cases_lt}
use Rattle.std.proofs.lemmas.Nat.Bits.{bit_at_above}
use Rattle.cell_hash.specs.declared.ChildMark.{ChildMark}
use Rattle.cell_hash.specs.declared.Content.TheVariants.{Data, Previous}
use Rattle.cell_nodes.specs.declared.tree.Kind.{Kind}
use Rattle.cell_nodes.specs.declared.tree.Kind.TheVariants.{Ordinary, Pruned, Library, Proof, Update}
use Rattle.cell_nodes.specs.declared.tree.Tree.{Tree, out-Tree}
use Rattle.cell_nodes.specs.Layout.{stored_mask}
use Rattle.cell_nodes.specs.Levels.{set_bits}
use Rattle.cell_nodes.specs.LevelsLaws.{IsSteady, set_bits-suc}
use Rattle.cell_nodes.specs.Tree.{Marks, marks_of, mark_at, mask_of, depth_of, hash_of, hash_with, computed_depth}
use Rattle.cell_nodes.specs.Tree.{computed_hash, pruned_depth, pruned_hash, depth_over, level_below, shift, marks}
use Rattle.cell_nodes.specs.Tree.{mask, depth, hash}
use Rattle.cell_nodes.specs.Equations.{marks-out}

-- all kinds but the pruned branch, which stores its hashes and depths
abbrev pub IsComputed : Kind → Type 0
IsComputed Ordinary = Unit {0}
IsComputed Pruned = ⊥
IsComputed Library = Unit {0}
IsComputed Proof = Unit {0}
IsComputed Update = Unit {0}

pub is_computed : (k : Kind) → k ≢ Pruned → IsComputed k
is_computed Ordinary h = tt
is_computed Pruned h = h refl
is_computed Library h = tt
is_computed Proof h = tt
is_computed Update h = tt

pub depth-computed : (k : Kind) (b : List ℕ) (ms : List Marks) → IsComputed k
    → depth_of k b ms ≡ computed_depth k (mask_of k b ms) ms
depth-computed Ordinary b ms h = refl
depth-computed Pruned b ms h = absurd h
depth-computed Library b ms h = refl
depth-computed Proof b ms h = refl
depth-computed Update b ms h = refl

pub hash-computed : (k : Kind) (b : List ℕ) (ms : List Marks) → IsComputed k
    → hash_of k b ms ≡ computed_hash k b (mask_of k b ms) ms
hash-computed Ordinary b ms h = refl
hash-computed Pruned b ms h = absurd h
hash-computed Library b ms h = refl
hash-computed Proof b ms h = refl
hash-computed Update b ms h = refl

-- ---- masks within the levels

-- a cell that takes its children a level up has no level 3
pub low_mask : (k : Kind) (m : ℕ) → m < 2 ^ (3 - shift k) → m ≤ 7
low_mask Ordinary m h = omega arith
low_mask Pruned m h = omega arith
low_mask Library m h = omega arith
low_mask Proof m h = omega arith
low_mask Update m h = omega arith

pub shift-le : (k : Kind) → shift k ≤ 1
shift-le Ordinary = omega arith
shift-le Pruned = omega arith
shift-le Library = omega arith
shift-le Proof = omega arith
shift-le Update = omega arith

pub level_within : (k : Kind) (m i : ℕ) → m < 2 ^ (3 - shift k) → bit_at m i ≡ 1 → i + 1 + shift k ≤ 3
level_within k m i h e = ⊎_elim
    (λ (l : i < 3 - shift k). omega (arith, shift-le k))
    (λ (l : 3 - shift k ≤ i). absurd (omega (arith, bit_at_above m (3 - shift k) i h l)))
    (cases_lt i (3 - shift k))

-- ---- at a level that the mask has

computed_depth-set : (k : Kind) (m : ℕ) (ms : List Marks) (i : ℕ) → bit_at m i ≡ 1
    → computed_depth k m ms (suc i) ≡ depth_over (level_below k (suc i)) ms
computed_depth-set k m ms i e = rw e refl

computed_hash-set : (k : Kind) (b : List ℕ) (m : ℕ) (ms : List Marks) (i : ℕ) → bit_at m i ≡ 1
    → computed_hash k b m ms (suc i)
    ≡ hash_with k (m % 2 ^ suc i) (length b) (Previous (computed_hash k b m ms i)) (suc i) ms
computed_hash-set k b m ms i e = rw e refl

pub depth-set : (k : Kind) (b : List ℕ) (ms : List Marks) (i : ℕ) → IsComputed k → bit_at (mask_of k b ms) i ≡ 1
    → depth_of k b ms (suc i) ≡ depth_over (level_below k (suc i)) ms
depth-set k b ms i h e =
    ap (λ (f : ℕ → ℕ). f (suc i)) (depth-computed k b ms h) ∙ computed_depth-set k (mask_of k b ms) ms i e

pub hash-set : (k : Kind) (b : List ℕ) (ms : List Marks) (i : ℕ) → IsComputed k → bit_at (mask_of k b ms) i ≡ 1
    → hash_of k b ms (suc i)
    ≡ hash_with k (mask_of k b ms % 2 ^ suc i) (length b) (Previous (hash_of k b ms i)) (suc i) ms
hash-set k b ms i h e =
    rw (hash-computed k b ms h) (computed_hash-set k b (mask_of k b ms) ms i e)

pub depth-lowest : (k : Kind) (b : List ℕ) (ms : List Marks) → IsComputed k
    → depth_of k b ms 0 ≡ depth_over (level_below k 0) ms
depth-lowest k b ms h = ap (λ (f : ℕ → ℕ). f 0) (depth-computed k b ms h)

pub hash-lowest : (k : Kind) (b : List ℕ) (ms : List Marks) → IsComputed k
    → hash_of k b ms 0 ≡ hash_with k 0 (length b) (Data b) 0 ms
hash-lowest k b ms h = ap (λ (f : ℕ → List ℕ). f 0) (hash-computed k b ms h)

-- ---- at a level that the mask doesn't have

computed_depth-unset : (k : Kind) (m : ℕ) (ms : List Marks) (i : ℕ) → bit_at m i ≡ 0
    → computed_depth k m ms (suc i) ≡ computed_depth k m ms i
computed_depth-unset k m ms i e = rw e refl

computed_hash-unset : (k : Kind) (b : List ℕ) (m : ℕ) (ms : List Marks) (i : ℕ) → bit_at m i ≡ 0
    → computed_hash k b m ms (suc i) ≡ computed_hash k b m ms i
computed_hash-unset k b m ms i e = rw e refl

same_place : (b : List ℕ) (i : ℕ) → bit_at (stored_mask b) i ≡ 0
    → set_bits (suc i) (stored_mask b) ≡ set_bits i (stored_mask b)
same_place b i e = omega (arith, set_bits-suc i (stored_mask b))

pruned_depth-unset : (b : List ℕ) (i : ℕ) → bit_at (stored_mask b) i ≡ 0 → pruned_depth b (suc i) ≡ pruned_depth b i
pruned_depth-unset b i e = rw (same_place b i e) refl

pruned_hash-unset : (b : List ℕ) (i : ℕ) → bit_at (stored_mask b) i ≡ 0 → pruned_hash b (suc i) ≡ pruned_hash b i
pruned_hash-unset b i e = rw (same_place b i e) refl

pub depth-steady : (k : Kind) (b : List ℕ) (ms : List Marks) → IsSteady (mask_of k b ms) (depth_of k b ms)
depth-steady Ordinary b ms i e = computed_depth-unset Ordinary _ ms i e
depth-steady Pruned b ms i e = pruned_depth-unset b i e
depth-steady Library b ms i e = computed_depth-unset Library _ ms i e
depth-steady Proof b ms i e = computed_depth-unset Proof _ ms i e
depth-steady Update b ms i e = computed_depth-unset Update _ ms i e

pub hash-steady : (k : Kind) (b : List ℕ) (ms : List Marks) → IsSteady (mask_of k b ms) (hash_of k b ms)
hash-steady Ordinary b ms i e = computed_hash-unset Ordinary b _ ms i e
hash-steady Pruned b ms i e = pruned_hash-unset b i e
hash-steady Library b ms i e = computed_hash-unset Library b _ ms i e
hash-steady Proof b ms i e = computed_hash-unset Proof b _ ms i e
hash-steady Update b ms i e = computed_hash-unset Update b _ ms i e

pub mark_of-steady : (k : Kind) (b : List ℕ) (ms : List Marks)
    → IsSteady (mask_of k b ms) (λ i. mark_at i (marks_of k b ms))
mark_of-steady k b ms i e = rw (depth-steady k b ms i e, hash-steady k b ms i e) refl

-- a tree has at a level that its mask doesn't have the depth and the hash of the level below
pub mark-steady : (t : Tree) → IsSteady (mask t) (λ i. mark_at i (marks t))
mark-steady t =
    let P : Marks → Type 0 = λ m. IsSteady m.mask (λ i. mark_at i m) in
    subst P (sym (marks-out t)) (mark_of-steady (out-Tree t).kind (out-Tree t).bits (map marks (out-Tree t).children))

pub depth-unset : (t : Tree) (i : ℕ) → bit_at (mask t) i ≡ 0 → depth t (suc i) ≡ depth t i
depth-unset t i e = ap (λ (m : ChildMark). m.depth) (mark-steady t i e)

pub hash-unset : (t : Tree) (i : ℕ) → bit_at (mask t) i ≡ 0 → hash t (suc i) ≡ hash t i
hash-unset t i e = ap (λ (m : ChildMark). m.hash) (mark-steady t i e)
