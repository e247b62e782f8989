-- The trees that reading makes are the unfoldings of the cells.
use Rattle.std.proofs.Common.{◌≡◌, ◌⊎◌, inl, inr, ◌∙◌, Bool, true, false, if◌then◌else◌, ℕ, zero, suc, ◌+◌, ◌-◌, ◌<◌, ◌≤◌, List, [], ◌∷◌, ◌++◌, length, refl, sym, ap, subst, arith}
use Rattle.std.specs.Prelude.{Option, Some, None, slice_get, nat_le}
use Rattle.cell_nodes.specs.declared.tree.Kind.{Kind}
use Rattle.cell_nodes.specs.declared.tree.Tree.{Tree}
use Rattle.cell_nodes.specs.Tree.{tree_of}
use Rattle.bag_cells.specs.Header.{cells, root, data_end}
use Rattle.bag_cells.specs.Cells.{ref_count, ref_at, start, has_stored_hashes, is_malformed, goes_back, refusal_at, cell_refusal}
use Rattle.bag_cells.specs.Trees.{one, cell_bits, cell_kind, picked, node_of, node, trees, node_refusal, root_tree}
use Rattle.bag_cells.specs.Unfolds.{Unfolds, cell, UnfoldEach, none, more}
use Rattle.bag_cells.specs.Bag.{refusal}
use Rattle.bag_cells.specs.Known.{IsLaid, IsLater}
use Rattle.bag_cells.specs.declared.error.BagError.{BagError}
use Rattle.bag_cells.specs.declared.error.BagError.TheVariants.{BadCell, StoredHashes, BackReference}
use Rattle.bag_cells.proofs.Laid.{laid, goes_forward}
use Rattle.bag_cells.proofs.Nones.{first_before-each, last_before-each, trees-length, root-within, root_refusal-none, header_refusal-none, cell_refusals-none, node_refusals-none, there}

-- ---- references go forward

if_none : (b : Bool) (e : BagError) (rest : Option BagError) → (if b then Some e else rest) ≡ None → (b ≡ false) × (rest ≡ None)
if_none true e rest h = absurd (cc)
if_none false e rest h = (refl, h)

record IsWell (raw : List ℕ) (i place : ℕ) : Type 0 where
  formed : is_malformed raw place ≡ false
  forward : goes_back raw i place (ref_count raw place) ≡ false

well-at : (raw : List ℕ) (i place : ℕ) → refusal_at raw i place ≡ None → IsWell raw i place
unfolding refusal_at
well-at raw i place h =
    let last = if goes_back raw i place (ref_count raw place) then Some (BackReference i) else None in
    let malformed = if is_malformed raw place then Some (BadCell i) else last in
    let stored = if has_stored_hashes raw place then Some (StoredHashes i) else malformed in
    let h1 = (if_none (nat_le (data_end raw) place) (BadCell i) stored h).1 in
    let h2 = (if_none (has_stored_hashes raw place) (StoredHashes i) malformed h1).1 in
    let h3 = if_none (is_malformed raw place) (BadCell i) last h2 in
    record {
      formed = h3.0;
      forward = (if_none (goes_back raw i place (ref_count raw place)) (BackReference i) None h3.1).0;
    }

-- a cell that is accepted by itself stands in the cell data
pub laid-at : (raw : List ℕ) (i : ℕ) → cell_refusal raw i ≡ None → IsLaid raw (start raw i)
laid-at raw i h = laid raw (start raw i) (well-at raw i (start raw i) h).formed

-- the references of each cell go to later cells
abbrev pub GoForward : List ℕ → Type 0
GoForward raw = (i : ℕ) → i < cells raw → (k : ℕ) → k < ref_count raw (start raw i) → IsLater raw i (ref_at raw (start raw i) k)

pub go_forward : (raw : List ℕ) → ((i : ℕ) → i < cells raw → cell_refusal raw i ≡ None) → GoForward raw
go_forward raw each i l k m =
    goes_forward raw i (start raw i) (ref_count raw (start raw i)) k (well-at raw i (start raw i) (each i l)).forward m

forward-accepted : (raw : List ℕ) → refusal raw ≡ None → GoForward raw
forward-accepted raw h = go_forward raw (λ i l. first_before-each (cell_refusal raw) (cells raw) i (cell_refusals-none raw h) l)

-- ---- the trees that are made

shifted : (A : Type 0) (p n : ℕ) (B : Type 0) → A ⊎ ((p ≡ n) × B) → A ⊎ ((suc p ≡ suc n) × B)
shifted A p n B (inl a) = inl a
shifted A p n B (inr b) = inr (ap suc b.0, b.1)

some_once : (a b : Tree) → Some a ≡ Some b → a ≡ b
some_once a b h = cc

in_front_or_last : (xs : List Tree) (o : Option Tree) (p : ℕ) (t : Tree) → slice_get (xs ++ one o) p ≡ Some t
    → (slice_get xs p ≡ Some t) ⊎ ((p ≡ length xs) × (o ≡ Some t))
in_front_or_last [] None p t h = absurd (cc)
in_front_or_last [] (Some x) zero t h = inr (refl, h)
in_front_or_last [] (Some x) (suc p) t h = absurd (cc)
in_front_or_last (x ∷ xs) o zero t h = inl h
in_front_or_last (x ∷ xs) o (suc p) t h = shifted (slice_get xs p ≡ Some t) p (length xs) (o ≡ Some t) (in_front_or_last xs o p t h)

picks : (raw : List ℕ) (i n m : ℕ) (xs : List Tree) → length xs ≡ n → i + 1 + n ≡ cells raw
    → ((k : ℕ) → k < m → IsLater raw i (ref_at raw (start raw i) k))
    → ((p : ℕ) (t : Tree) → slice_get xs p ≡ Some t → Unfolds raw (cells raw - 1 - p) t)
    → UnfoldEach raw (start raw i) m (picked raw (start raw i) xs m)
unfolding picked
picks raw i n zero xs count whole later known = none (start raw i)
picks raw i n (suc m) xs count whole later known =
    let cell_there = later m (omega arith) in
    let r = ref_at raw (start raw i) m in
    let found = there xs (cells raw - 1 - r) (omega (arith, cell_there.later, cell_there.there)) in
    let same : cells raw - 1 - (cells raw - 1 - r) ≡ r = omega (arith, cell_there.later, cell_there.there) in
    let last = subst (λ (c : ℕ). Unfolds raw c found.0) same (known (cells raw - 1 - r) found.0 found.1) in
    rw found.1 (more (start raw i) m (picked raw (start raw i) xs m) found.0 (picks raw i n m xs count whole (λ k l. later k (omega arith)) known) last)

node_unfolds : (raw : List ℕ) (i : ℕ) (xs : List Tree) (o : Option Kind) (t : Tree) → cell_kind raw (start raw i) ≡ o → node_of raw (start raw i) xs o ≡ Some t
    → UnfoldEach raw (start raw i) (ref_count raw (start raw i)) (picked raw (start raw i) xs (ref_count raw (start raw i))) → Unfolds raw i t
node_unfolds raw i xs None t e h each = absurd (cc)
node_unfolds raw i xs (Some k) t e h each =
    let made = tree_of k (cell_bits raw (start raw i)) (picked raw (start raw i) xs (ref_count raw (start raw i))) in
    let same : made ≡ t = some_once made t h in
    subst (λ (u : Tree). Unfolds raw i u) same (cell i k (picked raw (start raw i) xs (ref_count raw (start raw i))) e each)

-- the trees at the places of the list are the unfoldings of their cells
abbrev pub AreUnfolded : List ℕ → List Tree → Type 0
AreUnfolded raw xs = (p : ℕ) (t : Tree) → slice_get xs p ≡ Some t → Unfolds raw (cells raw - 1 - p) t

-- the tree of the cell before the last n ones, whose trees are known
pub node-unfolds : (raw : List ℕ) (i n : ℕ) (xs : List Tree) (t : Tree) → GoForward raw → length xs ≡ n → i + 1 + n ≡ cells raw → AreUnfolded raw xs
    → node raw (start raw i) xs ≡ Some t → Unfolds raw i t
unfolding node
node-unfolds raw i n xs t forward count whole known h =
    node_unfolds raw i xs (cell_kind raw (start raw i)) t refl h
    (picks raw i n (ref_count raw (start raw i)) xs count whole (forward i (omega arith)) known)

-- none of the last n cells is refused by its tree
abbrev pub LastAccepted : List ℕ → ℕ → Type 0
LastAccepted raw n = (j : ℕ) → cells raw ≤ j + n → j < cells raw → node_refusal raw j ≡ None

pub trees_unfold : (raw : List ℕ) (n : ℕ) → n ≤ cells raw → GoForward raw → LastAccepted raw n → AreUnfolded raw (trees raw n)
unfolding trees
trees_unfold raw zero h forward each p t g = absurd (cc)
trees_unfold raw (suc n) h forward each p t g =
    let i = cells raw - 1 - n in
    let whole : i + 1 + n ≡ cells raw = omega arith in
    let xs = trees raw n in
    let fewer : LastAccepted raw n = λ j l m. each j (omega arith) m in
    let known = trees_unfold raw n (omega arith) forward fewer in
    let count = trees-length raw n (omega arith) fewer in
    elim (in_front_or_last xs (node raw (start raw i) xs) p t g) [
      | inl prefix ↦ known p t prefix
      | inr last ↦
          let at : n ≡ p = sym (last.0 ∙ count) in
          subst (λ (m : ℕ). Unfolds raw (cells raw - 1 - m) t) at (node-unfolds raw i n xs t forward count whole known last.1)
    ]

pub all-accepted : (raw : List ℕ) → refusal raw ≡ None → LastAccepted raw (cells raw)
all-accepted raw h j l m = last_before-each (node_refusal raw) (cells raw) j (node_refusals-none raw h) m

pub root-unfolds : (raw : List ℕ) (t : Tree) → root raw < cells raw → GoForward raw → LastAccepted raw (cells raw) → root_tree raw ≡ Some t → Unfolds raw (root raw) t
root-unfolds raw t within forward each h =
    let same : cells raw - 1 - (cells raw - 1 - root raw) ≡ root raw = omega arith in
    subst (λ (c : ℕ). Unfolds raw c t) same (trees_unfold raw (cells raw) (omega arith) forward each (cells raw - 1 - root raw) t h)

pub root_unfolds : (raw : List ℕ) (t : Tree) → refusal raw ≡ None → root_tree raw ≡ Some t → Unfolds raw (root raw) t
root_unfolds raw t accepted h =
    root-unfolds raw t (root-within raw (root_refusal-none raw (header_refusal-none raw accepted))) (forward-accepted raw accepted) (all-accepted raw accepted) h

-- each tree that is made is the unfolding of its cell
pub made_unfolds : (raw : List ℕ) (p : ℕ) (t : Tree) → refusal raw ≡ None → slice_get (trees raw (cells raw)) p ≡ Some t → Unfolds raw (cells raw - 1 - p) t
made_unfolds raw p t accepted h =
    trees_unfold raw (cells raw) (omega arith) (forward-accepted raw accepted) (all-accepted raw accepted) p t h
