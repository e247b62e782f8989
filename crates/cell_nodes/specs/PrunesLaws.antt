-- A pruned tree keeps the hashes and depths of its tree.
use Rattle.std.specs.Prelude.{◌≡◌, ℕ, zero, suc, ◌+◌, ◌-◌, ◌/◌, ◌%◌, ◌^◌, ◌≤◌, ◌<◌, bit_or, max}
use Rattle.std.specs.Prelude.{List, [], ◌∷◌, length, map, if◌then◌else◌}
use Rattle.std.specs.Int.{bit_at}
use Rattle.std.proofs.Common.{arith, ap, sym, subst, ◌∙◌, refl, get_or, ⊎_elim}
use Rattle.std.proofs.Math.Pow.{mod-mod-pow, pow_mono}
use Rattle.std.proofs.lemmas.Bool.{cases_lt}
use Rattle.std.proofs.lemmas.Nat.{le_or_l, le_or_r}
use Rattle.std.proofs.lemmas.Nat.Bits.{bit_at_or, bit_at_above, bit_at_cat_low, bit_at-suc, same_from_bits}
use Rattle.std.proofs.lemmas.List.{length-map}
use Rattle.cell_hash.specs.declared.ChildMark.{ChildMark}
use Rattle.cell_hash.specs.declared.Content.TheVariants.{Data, Previous}
use Rattle.cell_nodes.specs.declared.tree.Kind.{Kind}
use Rattle.cell_nodes.specs.declared.tree.Kind.TheVariants.{Ordinary, Pruned, Library, Proof, Update}
use Rattle.cell_nodes.specs.declared.tree.Tree.{Tree, out-Tree}
use Rattle.std.specs.Prelude.{Bool, true, false, ◌*◌}
use Rattle.std.specs.Int.Bits.{or_zero_r}
use Rattle.std.proofs.Math.Nat.{pow-suc, mod-eq_of_lt}
use Rattle.sha2.specs.Sha256.{sha256}
use Rattle.bit_slice.specs.Bits.{AreBits}
use Rattle.bit_slice.specs.BitLists.{AreBits-drop}
use Rattle.cell_hash.specs.declared.Content.{Content}
use Rattle.cell_hash.specs.Representation.{descriptor, representation}
use Rattle.cell_nodes.specs.BytesLaws.{AreBytes, AreBytes-sha256, AreBytes-groups}
use Rattle.cell_nodes.specs.Constructed.{stub}
use Rattle.cell_nodes.specs.ConstructedLaws.{stub-stores, stub-same, stored_mask-is, depth-stored, hash-stored}
use Rattle.cell_nodes.specs.Equations.{out-tree_of, marks-out, marks-tree_of, mask-tree_of}
use Rattle.cell_nodes.specs.Good.{IsGood, AllGood}
use Rattle.cell_nodes.specs.GoodParts.{good-sound, good-children, all_good-head, all_good-tail}
use Rattle.cell_nodes.specs.Levels.{levels_in, set_bits}
use Rattle.cell_nodes.specs.MarksLaws.{IsComputed, depth-computed, hash-computed, mark-steady}
use Rattle.cell_nodes.specs.Prunes.{Prunes, same, hidden, ordinary, proof, AllPrune, none, more}
use Rattle.cell_nodes.specs.declared.tree.Tree.TheOpen.{Tree-F}
use Rattle.cell_nodes.specs.LevelsLaws.{bit_cases, set_bits-within, length-levels_in, at-levels_in}
use Rattle.cell_nodes.specs.Tree.{Marks, tree_of, marks, marks_of, mark_at, mask, hash, hash_of}
use Rattle.cell_nodes.specs.Tree.{mask_of}
use Rattle.cell_nodes.specs.Tree.{computed_depth, computed_hash, hash_with, depth_over, is_exotic, level_below}
use Rattle.cell_nodes.specs.Tree.{union_of}

-- ---- the lowest bits of masks

one_le-pow : (i : ℕ) → 1 ≤ 2 ^ i
one_le-pow i = pow_mono {i = 0} {j = i} (omega arith)

pub bit_at-low : (m i k : ℕ) → k < i → bit_at (m % 2 ^ i) k ≡ bit_at m k
bit_at-low m i k h =
    let e : m / 2 ^ i * 2 ^ i + m % 2 ^ i ≡ m = omega arith in
    sym (ap (λ (x : ℕ). bit_at x k) (sym e) ∙ bit_at_cat_low (m / 2 ^ i) i (m % 2 ^ i) k h)

mod-below : (m i : ℕ) → m % 2 ^ i < 2 ^ i
mod-below m i = let p : 1 ≤ 2 ^ i = one_le-pow i in omega arith

low-or : (a b i : ℕ) → bit_or a b % 2 ^ i ≡ bit_or (a % 2 ^ i) (b % 2 ^ i)
low-or a b i = same_from_bits _ _ (λ k. ⊎_elim
    (λ (l : k < i).
    bit_at-low (bit_or a b) i k l ∙ bit_at_or a b k
    ∙ sym (bit_at_or (a % 2 ^ i) (b % 2 ^ i) k ∙ ap (λ x. max x (bit_at (b % 2 ^ i) k)) (bit_at-low a i k l)
    ∙ ap (λ x. max (bit_at a k) x) (bit_at-low b i k l)))
    (λ (l : i ≤ k).
    bit_at_above (bit_or a b % 2 ^ i) i k (mod-below (bit_or a b) i) l
    ∙ sym (bit_at_or (a % 2 ^ i) (b % 2 ^ i) k
    ∙ ap (λ x. max x (bit_at (b % 2 ^ i) k)) (bit_at_above (a % 2 ^ i) i k (mod-below a i) l)
    ∙ ap (λ x. max 0 x) (bit_at_above (b % 2 ^ i) i k (mod-below b i) l)))
    (cases_lt k i))

-- a mask whose lowest i bits are those of a mask below 2^i has its bits, and as far as level l its numbers
pub low-bit : (m q i k : ℕ) → m % 2 ^ i ≡ q → k < i → bit_at m k ≡ bit_at q k
low-bit m q i k e h = sym (bit_at-low m i k h) ∙ ap (λ (x : ℕ). bit_at x k) e

pub low-mod : (m q i l : ℕ) → m % 2 ^ i ≡ q → l ≤ i → m % 2 ^ l ≡ q % 2 ^ l
low-mod m q i l e h =
    let s : (i - l) + l ≡ i = omega arith in
    sym (ap (λ (x : ℕ). m % 2 ^ x % 2 ^ l) (sym s) ∙ mod-mod-pow m (i - l) l) ∙ ap (λ (x : ℕ). x % 2 ^ l) e

-- ---- what is computed from the same marks of the children

-- both lists have the same marks at a level
abbrev pub SameAt : ℕ → List Marks → List Marks → Type 0
SameAt l ms ns = map (mark_at l) ms ≡ map (mark_at l) ns

abbrev first_depth : List ChildMark → ℕ
first_depth [] = 0
first_depth (x ∷ xs) = x.depth

abbrev others : List ChildMark → List ChildMark
others [] = []
others (x ∷ xs) = xs

over-same : (l : ℕ) (ms ns : List Marks) → SameAt l ms ns → depth_over l ms ≡ depth_over l ns
over-same l [] [] e = refl
over-same l [] (n ∷ ns) e = absurd (cc)
over-same l (m ∷ ms) [] e = absurd (cc)
over-same l (m ∷ []) (n ∷ []) e = let d : m.depth l ≡ n.depth l =
    ap (λ (x : List ChildMark). first_depth x) e in rw d refl
over-same l (m ∷ []) (n ∷ n' ∷ ns) e = absurd (cc)
over-same l (m ∷ m' ∷ ms) (n ∷ []) e = absurd (cc)
over-same l (m ∷ m' ∷ ms) (n ∷ n' ∷ ns) e =
    let d : m.depth l ≡ n.depth l = ap (λ (x : List ChildMark). first_depth x) e in
    let r : depth_over l (m' ∷ ms) ≡ depth_over l (n' ∷ ns) =
    over-same l (m' ∷ ms) (n' ∷ ns) (ap (λ (x : List ChildMark). others x) e) in
    omega arith

length-same : (l : ℕ) (ms ns : List Marks) → SameAt l ms ns → length ms ≡ length ns
length-same l ms ns e = sym (length-map ms (mark_at l)) ∙ ap length e ∙ length-map ns (mark_at l)

pub computed_depth-same : (k : Kind) (m q i : ℕ) (ms ns : List Marks) (l : ℕ) → m % 2 ^ i ≡ q → l ≤ i
    → ((j : ℕ) → j ≤ i → SameAt (level_below k j) ms ns) → computed_depth k m ms l ≡ computed_depth k q ns l
computed_depth-same k m q i ms ns zero e h eq = over-same (level_below k 0) ms ns (eq 0 (omega arith))
computed_depth-same k m q i ms ns (suc l) e h eq = ⊎_elim
    (λ (z : bit_at q l ≡ 0).
    rw (low-bit m q i l e (omega arith), z) (computed_depth-same k m q i ms ns l e (omega arith) eq))
    (λ (o : bit_at q l ≡ 1).
    rw (low-bit m q i l e (omega arith), o) (over-same (level_below k (suc l)) ms ns (eq (suc l) h)))
    (bit_cases q l)

with-same : (k : Kind) (mask count : ℕ) (content : Content) (j : ℕ) (ms ns : List Marks)
    → SameAt (level_below k j) ms ns
    → hash_with k mask count content j ms ≡ hash_with k mask count content j ns
with-same k mask count content j ms ns e =
    ap (λ (n : ℕ).
    sha256 (representation (descriptor n (is_exotic k) mask count) content (map (mark_at (level_below k j)) ms)))
    (length-same (level_below k j) ms ns e)
    ∙ ap (λ (xs : List ChildMark).
    sha256 (representation (descriptor (length ns) (is_exotic k) mask count) content xs)) e

pub computed_hash-same : (k : Kind) (b : List ℕ) (m q i : ℕ) (ms ns : List Marks) (l : ℕ) → m % 2 ^ i ≡ q → l ≤ i
    → ((j : ℕ) → j ≤ i → SameAt (level_below k j) ms ns) → computed_hash k b m ms l ≡ computed_hash k b q ns l
computed_hash-same k b m q i ms ns zero e h eq = with-same k 0 (length b) (Data b) 0 ms ns (eq 0 (omega arith))
computed_hash-same k b m q i ms ns (suc l) e h eq =
    let before : computed_hash k b m ms l ≡ computed_hash k b q ns l =
    computed_hash-same k b m q i ms ns l e (omega arith) eq in
    ⊎_elim
    (λ (z : bit_at q l ≡ 0). rw (low-bit m q i l e (omega arith), z) before)
    (λ (o : bit_at q l ≡ 1).
    rw (low-bit m q i l e (omega arith), o, low-mod m q i (suc l) e h, before)
    (with-same k (q % 2 ^ suc l) (length b) (Previous (computed_hash k b q ns l)) (suc l) ms ns (eq (suc l) h)))
    (bit_cases q l)

-- ---- hashes of good trees are bytes

AreBytes-choice : (t : Bool) (x y : List ℕ) → AreBytes x → AreBytes y → AreBytes (if t then x else y)
AreBytes-choice true x y h k = h
AreBytes-choice false x y h k = k

AreBytes-computed : (k : Kind) (b : List ℕ) (m : ℕ) (ms : List Marks) (i : ℕ) → AreBytes (computed_hash k b m ms i)
AreBytes-computed k b m ms zero = AreBytes-sha256 _
AreBytes-computed k b m ms (suc i) = AreBytes-choice _ _ _ (AreBytes-sha256 _) (AreBytes-computed k b m ms i)

AreBytes-hash_of : (k : Kind) (b : List ℕ) (ms : List Marks) (i : ℕ) → AreBits b → AreBytes (hash_of k b ms i)
AreBytes-hash_of Ordinary b ms i h = AreBytes-computed Ordinary b _ ms i
AreBytes-hash_of Pruned b ms i h = AreBytes-choice _ _ _ (AreBytes-groups 32 _ (AreBits-drop _ b h)) (AreBytes-sha256 _)
AreBytes-hash_of Library b ms i h = AreBytes-computed Library b _ ms i
AreBytes-hash_of Proof b ms i h = AreBytes-computed Proof b _ ms i
AreBytes-hash_of Update b ms i h = AreBytes-computed Update b _ ms i

pub AreBytes-hash : (t : Tree) (i : ℕ) → IsGood t → AreBytes (hash t i)
AreBytes-hash t i g =
    let P : Marks → Type 0 = λ m. AreBytes (m.hash i) in
    subst P (sym (marks-out t))
    (AreBytes-hash_of (out-Tree t).kind (out-Tree t).bits (map marks (out-Tree t).children) i (good-sound t g).bits)

abbrev mark_with : ℕ → List ℕ → ChildMark
mark_with d h = record { depth = d; hash = h }

mark-parts : (m n : ChildMark) → m.depth ≡ n.depth → m.hash ≡ n.hash → m ≡ n
mark-parts m n d h = ap (λ (x : ℕ). mark_with x m.hash) d ∙ ap (λ (x : List ℕ). mark_with n.depth x) h

pub good-below : (k : Kind) (b : List ℕ) (ts : List Tree) → IsGood (tree_of k b ts) → AllGood ts
good-below k b ts g =
    let P : Tree-F Tree → Type 0 = λ n. AllGood n.children in
    subst P (out-tree_of k b ts) (good-children (tree_of k b ts) g)

-- ---- the pruned branch that stands for a tree

stub-mask : (m i : ℕ) → i ≤ 2 → m < 2 ^ i → (m % 2 ^ i + 2 ^ i) % 2 ^ i ≡ m
stub-mask m zero h l = omega arith
stub-mask m (suc zero) h l = omega arith
stub-mask m (suc (suc zero)) h l = omega arith
stub-mask m (suc (suc (suc i))) h l = absurd (omega arith)

pub mask-stub : (t : Tree) (i : ℕ) → IsGood t → i ≤ 2 → mask (stub t i) ≡ mask t % 2 ^ i + 2 ^ i
mask-stub t i g h = mask-tree_of Pruned _ [] ∙ stored_mask-is _ _ (stub-stores t i g h)

pub stub-mark : (t : Tree) (i l : ℕ) → IsGood t → i ≤ 2 → l ≤ i → mark_at l (marks (stub t i)) ≡ mark_at l (marks t)
stub-mark t i l g h k =
    let F : ℕ → ChildMark = λ j. mark_at j (marks t) in
    let ps : List ChildMark = map F (levels_in i (mask t)) in
    let d : ChildMark = F 0 in
    let can = stub-stores t i g h in
    let place : set_bits l (mask t % 2 ^ i + 2 ^ i) ≡ set_bits l (mask t) = stub-same (mask t) i l h k in
    let inside : set_bits l (mask t % 2 ^ i + 2 ^ i) < length ps =
    omega (
      arith,
      place,
      length-map (levels_in i (mask t)) F,
      length-levels_in i (mask t),
      set_bits-within l i (mask t) k,
    ) in
    let found : get_or ps (set_bits l (mask t % 2 ^ i + 2 ^ i)) d ≡ F l =
    ap (λ (j : ℕ). get_or ps j d) place ∙ at-levels_in F (mask t) d (mark-steady t) i l k in
    let P : ChildMark → Type 0 = λ m. AreBytes m.hash in
    let bytes : AreBytes (get_or ps (set_bits l (mask t % 2 ^ i + 2 ^ i)) d).hash =
    subst P (sym found) (AreBytes-hash t l g) in
    mark-parts (mark_at l (marks (stub t i))) (F l)
    (depth-stored _ ps l d can inside ∙ ap (λ (m : ChildMark). m.depth) found)
    (hash-stored _ ps l d can inside bytes ∙ ap (λ (m : ChildMark). m.hash) found)

-- ---- pruning keeps hashes

pub record KeepsTo (t p : Tree) (i : ℕ) : Type 0 where
  pub mask_kept : mask p % 2 ^ i ≡ mask t
  pub marks_kept : (l : ℕ) → l ≤ i → mark_at l (marks p) ≡ mark_at l (marks t)

pub record AllKeepTo (ts ps : List Tree) (i : ℕ) : Type 0 where
  pub masks_kept : union_of (map marks ps) % 2 ^ i ≡ union_of (map marks ts)
  pub marks_kept : (l : ℕ) → l ≤ i → SameAt l (map marks ps) (map marks ts)

marks_of-same : (k : Kind) (b : List ℕ) (ms ns : List Marks) (i l : ℕ) → IsComputed k
    → mask_of k b ms % 2 ^ i ≡ mask_of k b ns → l ≤ i
    → ((j : ℕ) → j ≤ i → SameAt (level_below k j) ms ns) → mark_at l (marks_of k b ms) ≡ mark_at l (marks_of k b ns)
marks_of-same k b ms ns i l c e h eq =
    mark-parts (mark_at l (marks_of k b ms)) (mark_at l (marks_of k b ns))
    (ap (λ (f : ℕ → ℕ). f l) (depth-computed k b ms c)
    ∙ computed_depth-same k (mask_of k b ms) (mask_of k b ns) i ms ns l e h eq
    ∙ sym (ap (λ (f : ℕ → ℕ). f l) (depth-computed k b ns c)))
    (ap (λ (f : ℕ → List ℕ). f l) (hash-computed k b ms c)
    ∙ computed_hash-same k b (mask_of k b ms) (mask_of k b ns) i ms ns l e h eq
    ∙ sym (ap (λ (f : ℕ → List ℕ). f l) (hash-computed k b ns c)))

node-keeps : (k : Kind) (b : List ℕ) (ts ps : List Tree) (i : ℕ) → IsComputed k
    → mask_of k b (map marks ps) % 2 ^ i ≡ mask_of k b (map marks ts)
    → ((j : ℕ) → j ≤ i → SameAt (level_below k j) (map marks ps) (map marks ts))
    → KeepsTo (tree_of k b ts) (tree_of k b ps) i
node-keeps k b ts ps i c e eq = record {
  mask_kept = rw (mask-tree_of k b ps, mask-tree_of k b ts) e;
  marks_kept = λ l h. rw (
    marks-tree_of k b ps,
    marks-tree_of k b ts,
  ) (marks_of-same k b (map marks ps) (map marks ts) i l c e h eq);
}

half-low : (x q i : ℕ) → x % 2 ^ suc i ≡ q → x / 2 % 2 ^ i ≡ q / 2
half-low x q i e = same_from_bits _ _ (λ k. ⊎_elim
    (λ (l : k < i).
    bit_at-low (x / 2) i k l ∙ sym (bit_at-suc x k) ∙ low-bit x q (suc i) (suc k) e (omega arith) ∙ bit_at-suc q k)
    (λ (l : i ≤ k).
    let below : q < 2 ^ suc i = rw (← e) (mod-below x (suc i)) in
    bit_at_above (x / 2 % 2 ^ i) i k (mod-below (x / 2) i) l
    ∙ sym (sym (bit_at-suc q k) ∙ bit_at_above q (suc i) (suc k) below (omega arith)))
    (cases_lt k i))

mutual
  pub prunes-keeps : (t p : Tree) (i : ℕ) → Prunes t p i → IsGood t → mask t < 2 ^ i → KeepsTo t p i
  prunes-keeps t p i (same t' i') g h = record { mask_kept = mod-eq_of_lt h; marks_kept = λ l k. refl }
  prunes-keeps t p i (hidden t' i' k) g h = record {
    mask_kept = rw (mask-stub t i g k) (stub-mask (mask t) i k h);
    marks_kept = λ l b. stub-mark t i l g k b;
  }
  prunes-keeps t p i (ordinary bits ts ps i' all) g h =
      let m = mask-tree_of Ordinary bits ts in
      let k = all-keep ts ps i all (good-below Ordinary bits ts g) (omega (arith, m)) in
      node-keeps Ordinary bits ts ps i tt k.masks_kept
      (λ j b. let z : j + 0 ≡ j = omega arith in rw z (k.marks_kept j b))
  prunes-keeps t p i (proof bits c q i' small one) g h =
      let m = mask-tree_of Proof bits (c ∷ []) in
      let z = or_zero_r (mask c) in
      let s : 2 ^ suc i ≡ 2 ^ i * 2 = pow-suc 2 i in
      let k = prunes-keeps c q (suc i) one (all_good-head c [] (good-below Proof bits (c ∷ []) g)) (omega (
        arith,
        m,
        z,
      )) in
      node-keeps Proof bits (c ∷ []) (q ∷ []) i tt
      (rw (or_zero_r (mask q), z) (half-low (mask q) (mask c) i k.mask_kept))
      (λ j b. rw (k.marks_kept (j + 1) (omega arith)) refl)

  pub all-keep : (ts ps : List Tree) (i : ℕ) → AllPrune ts ps i → AllGood ts → union_of (map marks ts) < 2 ^ i
      → AllKeepTo ts ps i
  all-keep ts ps i (none i') g h = record { masks_kept = omega (arith, one_le-pow i); marks_kept = λ l k. refl }
  all-keep ts ps i (more t p us qs i' one all) g h =
      let a = prunes-keeps t p i one (all_good-head t us g) (omega (
        arith,
        le_or_l (mask t) (union_of (map marks us)),
      )) in
      let b = all-keep us qs i all (all_good-tail t us g) (omega (arith, le_or_r (mask t) (union_of (map marks us)))) in
      record {
        masks_kept = low-or (mask p) (union_of (map marks qs)) i ∙ rw (a.mask_kept, b.masks_kept) refl;
        marks_kept = λ l k. rw (a.marks_kept l k, b.marks_kept l k) refl;
      }
