-- One level more of a node.
use Rattle.std.proofs.Common.{◌≡◌, ◌≢◌, ◌∙◌, ℕ, zero, suc, ◌+◌, ◌%◌, ◌^◌, IsTrue, ◌<◌, ◌≤◌, Bool, true, false, eqb, List, [], ◌∷◌, ◌++◌, length, map, get_or, set, get_or-set_same, get_or-set_other, ap, sym, refl, arith, ⊎_elim}
use Rattle.std.proofs.lemmas.Bool.{eqb-true, cases_eq}
use Rattle.std.proofs.lemmas.List.{length-map, map-append}
use Rattle.std.specs.Prelude.{Result, Ok, Err, OnOk}
use Rattle.std.specs.Int.{bit_at}
use Rattle.cell_hash.specs.declared.ChildMark.{ChildMark}
use Rattle.cell_nodes.specs.declared.tree.Kind.{Kind}
use Rattle.cell_nodes.specs.Levels.{levels, levels_in}
use Rattle.cell_nodes.specs.declared.tree.Kind.TheVariants.{Pruned}
use Rattle.cell_nodes.specs.declared.tree.Tree.{Tree}
use Rattle.cell_nodes.specs.Constructed.{pruned_bits}
use Rattle.cell_nodes.specs.ConstructedLaws.{pruned-layout, pruned-shallow, stub-stores}
use Rattle.cell_nodes.specs.Good.{IsGood}
use Rattle.cell_nodes.specs.Layout.{has_layout}
use Rattle.cell_nodes.specs.LevelsLaws.{bit_cases, length-levels_in, set_bits-le, levels_in-zero, levels_in-set, levels_in-unset}
use Rattle.cell_nodes.specs.MarksLaws.{depth-steady, hash-steady}
use Rattle.cell_nodes.specs.Tree.{Marks, marks, marks_of, mark_at, mask, mask_of, depth_of, hash_of, tree_of, IsShallow}

-- what a test for a set bit says
pub bit_set : (r : Bool) (m i : ℕ) → r ≡ eqb (bit_at m i) 1 → r ≡ true → bit_at m i ≡ 1
bit_set r m i e t = eqb-true (bit_at m i) 1 (sym e ∙ t)

pub bit_unset : (r : Bool) (m i : ℕ) → r ≡ eqb (bit_at m i) 1 → r ≡ false → bit_at m i ≡ 0
bit_unset r m i e t = ⊎_elim
    (λ (z : bit_at m i ≡ 0). z)
    (λ (o : bit_at m i ≡ 1). let f : eqb (bit_at m i) 1 ≡ true = rw o refl in cc)
    (bit_cases m i)

-- ---- depths in a list

pub depth-unset : (k : Kind) (b : List ℕ) (ms : List Marks) (m i v : ℕ) → m ≡ mask_of k b ms → bit_at m i ≡ 0
    → v ≡ depth_of k b ms i → v ≡ depth_of k b ms (i + 1)
depth-unset k b ms m i v e z h =
    let s : i + 1 ≡ suc i = omega arith in
    rw s (h ∙ sym (depth-steady k b ms i (rw e at z)))

pub depths-known : (f : ℕ → ℕ) (ds : List ℕ) (i v : ℕ) → length ds ≡ 4 → i < 3
    → ((k : ℕ) → k ≤ i → get_or ds k 0 ≡ f k) → v ≡ f (i + 1)
    → (k : ℕ) → k ≤ i + 1 → get_or (set ds (i + 1) v) k 0 ≡ f k
depths-known f ds i v len small known e k h = ⊎_elim
    (λ (s : k ≡ i + 1). let lt : i + 1 < length ds = omega arith in rw (s, get_or-set_same) e)
    (λ (ne : k ≢ i + 1). let l : k ≤ i = omega arith in rw get_or-set_other (known k l))
    (cases_eq k (i + 1))

-- ---- marks in a list

abbrev pub mark_with : ℕ → List ℕ → ChildMark
mark_with d h = record { depth = d; hash = h }

abbrev pub node_marks : Kind → List ℕ → List Marks → ℕ → ℕ → List ChildMark
node_marks k b ms i m = map (λ j. mark_at j (marks_of k b ms)) (levels_in i m)

pub first-kept : (k : Kind) (b : List ℕ) (ms : List Marks) (m : ℕ) (ds h : List ℕ) (xs : List ChildMark)
    → xs ≡ [] → ds ≡ map (depth_of k b ms) levels → h ≡ hash_of k b ms 0
    → mark_with (get_or ds 0 0) h ∷ xs ≡ node_marks k b ms 0 m
first-kept k b ms m ds h xs none ed eh = rw (none, ed, eh, levels_in-zero m) refl

pub set-kept : (k : Kind) (b : List ℕ) (ms : List Marks) (m i : ℕ) (l : ChildMark) (xs ys : List ChildMark) (d : ℕ) (h : List ℕ)
    → bit_at m i ≡ 1 → l ∷ xs ≡ node_marks k b ms i m → ys ≡ xs ++ mark_with d h ∷ []
    → d ≡ depth_of k b ms (i + 1) → h ≡ hash_of k b ms (i + 1)
    → l ∷ ys ≡ node_marks k b ms (i + 1) m
set-kept k b ms m i l xs ys d h o kept pushed ed eh =
    let s : i + 1 ≡ suc i = omega arith in
    let F : ℕ → ChildMark = λ j. mark_at j (marks_of k b ms) in
    rw (pushed, s, levels_in-set i m o, map-append F (levels_in i m) (suc i ∷ []), ← kept, ← s, ed, eh) refl

pub unset-kept : (k : Kind) (b : List ℕ) (ms : List Marks) (m i : ℕ) (l : ChildMark) (xs ys : List ChildMark)
    → bit_at m i ≡ 0 → l ∷ xs ≡ node_marks k b ms i m → ys ≡ xs
    → l ∷ ys ≡ node_marks k b ms (i + 1) m
unset-kept k b ms m i l xs ys z kept same =
    let s : i + 1 ≡ suc i = omega arith in
    rw (same, s, levels_in-unset i m z) kept

pub hash-unset : (k : Kind) (b : List ℕ) (ms : List Marks) (m i : ℕ) (h : List ℕ) → m ≡ mask_of k b ms → bit_at m i ≡ 0
    → h ≡ hash_of k b ms i → h ≡ hash_of k b ms (i + 1)
hash-unset k b ms m i h e z eh =
    let s : i + 1 ≡ suc i = omega arith in
    rw s (eh ∙ sym (hash-steady k b ms i (rw e at z)))

-- the depth at a level, in the list of all
pub depth-at : (f : ℕ → ℕ) (ds : List ℕ) (i : ℕ) → ds ≡ map f levels → i ≤ 3 → get_or ds i 0 ≡ f i
depth-at f ds zero e h = rw e refl
depth-at f ds (suc zero) e h = rw e refl
depth-at f ds (suc (suc zero)) e h = rw e refl
depth-at f ds (suc (suc (suc zero))) e h = rw e refl
depth-at f ds (suc (suc (suc (suc i)))) e h = absurd (omega arith)

-- ---- marks of a tree in a list

abbrev pub tree_marks : Tree → ℕ → List ChildMark
tree_marks t i = map (λ j. mark_at j (marks t)) (levels_in i (mask t))

pub within-first : (t : Tree) (xs : List ChildMark) → xs ≡ mark_at 0 (marks t) ∷ [] → xs ≡ tree_marks t 0
within-first t xs e = rw (e, levels_in-zero (mask t)) refl

pub within-set : (t : Tree) (i : ℕ) (xs ys : List ChildMark) → bit_at (mask t) i ≡ 1 → xs ≡ tree_marks t i
    → ys ≡ xs ++ mark_at (i + 1) (marks t) ∷ [] → ys ≡ tree_marks t (i + 1)
within-set t i xs ys o kept pushed =
    let s : i + 1 ≡ suc i = omega arith in
    let F : ℕ → ChildMark = λ j. mark_at j (marks t) in
    rw (pushed, s, levels_in-set i (mask t) o, map-append F (levels_in i (mask t)) (suc i ∷ []), kept) refl

pub within-unset : (t : Tree) (i : ℕ) (xs : List ChildMark) → bit_at (mask t) i ≡ 0 → xs ≡ tree_marks t i → xs ≡ tree_marks t (i + 1)
within-unset t i xs z kept =
    let s : i + 1 ≡ suc i = omega arith in
    rw (s, levels_in-unset i (mask t) z) kept

-- ---- the pruned branch that stands for a tree

pub stub-layout : (t : Tree) (i m : ℕ) (ps : List ChildMark) (bits : List ℕ) → IsGood t → i ≤ 2 → m ≡ mask t % 2 ^ i + 2 ^ i
    → ps ≡ tree_marks t i → bits ≡ pruned_bits m ps → IsTrue (has_layout Pruned bits 0)
stub-layout t i m ps bits g h em ep eb = rw (eb, em, ep) (pruned-layout _ _ (stub-stores t i g h))

pub stub-shallow : (t : Tree) (i m : ℕ) (ps : List ChildMark) (bits : List ℕ) → IsGood t → i ≤ 2 → m ≡ mask t % 2 ^ i + 2 ^ i
    → ps ≡ tree_marks t i → bits ≡ pruned_bits m ps → IsShallow (tree_of Pruned bits [])
stub-shallow t i m ps bits g h em ep eb = rw (eb, em, ep) (pruned-shallow _ _ (stub-stores t i g h))

pub stub-count : (t : Tree) (i : ℕ) (ps : List ChildMark) → i ≤ 2 → ps ≡ tree_marks t i → length ps ≤ 3
stub-count t i ps h e =
    omega (arith, ap length e, length-map (levels_in i (mask t)) (λ j. mark_at j (marks t)), length-levels_in i (mask t), set_bits-le i (mask t))

-- ---- what holds of a value holds where less is asked

pub on_ok : {T E P Q : Type 0} (r : Result T E) → (P → Q) → OnOk r P → OnOk r Q
on_ok (Ok x) f p = f p
on_ok (Err e) f p = p
