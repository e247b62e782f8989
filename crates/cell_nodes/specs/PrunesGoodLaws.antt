-- A pruned tree is good where its tree is.
use Rattle.std.specs.Prelude.{◌≡◌, ℕ, zero, suc, ◌+◌, ◌*◌, ◌/◌, ◌%◌, ◌-◌, ◌^◌, ◌≤◌, ◌<◌, List, [], ◌∷◌}
use Rattle.std.specs.Prelude.{length, map}
use Rattle.std.specs.Int.{bit_at}
use Rattle.std.specs.Int.Bits.{or_zero_r}
use Rattle.std.proofs.Common.{arith, ap, sym, subst, ◌∙◌, refl, ⊎_elim, IsTrue}
use Rattle.std.proofs.Math.Nat.{pow-suc}
use Rattle.std.proofs.lemmas.Bool.{cases_lt}
use Rattle.std.proofs.lemmas.Nat.{le_or_l, le_or_r}
use Rattle.std.proofs.lemmas.Nat.Bits.{bit_at_or, bit_at_above, bit_at-suc}
use Rattle.std.proofs.lemmas.List.{length-map}
use Rattle.std.specs.List.{flat_map}
use Rattle.bit_slice.specs.Bits.{AreBits, spelled}
use Rattle.bit_slice.specs.BitLists.{AreBits-append, AreBits-spelled}
use Rattle.cell_hash.specs.declared.ChildMark.{ChildMark}
use Rattle.cell_nodes.specs.declared.tree.Kind.{Kind}
use Rattle.cell_nodes.specs.declared.tree.Kind.TheVariants.{Ordinary, Pruned, Proof}
use Rattle.cell_nodes.specs.declared.tree.Tree.{Tree}
use Rattle.cell_nodes.specs.BytesLaws.{AreBits-bits_of}
use Rattle.cell_nodes.specs.Constructed.{hash_bits, depth_bits, pruned_bits, stub}
use Rattle.cell_nodes.specs.ConstructedLaws.{stub-stores, pruned-layout, pruned-shallow, length-pruned}
use Rattle.cell_nodes.specs.ConstructedLaws.{depth-own}
use Rattle.cell_nodes.specs.Equations.{out-tree_of, mask-tree_of, depth-tree_of}
use Rattle.cell_nodes.specs.Good.{IsGood, AllGood, none as no_trees, more as more_trees}
use Rattle.cell_nodes.specs.GoodParts.{good-sound, good-depth, good-tree_of, all_good-head, all_good-tail}
use Rattle.cell_nodes.specs.Layout.{has_layout}
use Rattle.cell_nodes.specs.LevelsLaws.{bit_cases, length-levels_in, set_bits-within, set_bits-le}
use Rattle.cell_nodes.specs.MarksLaws.{depth-lowest, depth-set, depth-unset}
use Rattle.cell_nodes.specs.Prunes.{Prunes, same, hidden, ordinary, proof, AllPrune, none, more}
use Rattle.cell_nodes.specs.PrunesLaws.{KeepsTo, good-below, prunes-keeps, stub-mark}
use Rattle.cell_nodes.specs.Levels.{levels_in, set_bits}
use Rattle.cell_nodes.specs.declared.tree.Tree.TheOpen.{Tree-F}
use Rattle.cell_nodes.specs.Tree.{tree_of, marks, mark_at, mask, depth, depth_over, greatest}
use Rattle.cell_nodes.specs.Tree.{union_of, IsShallow}

-- ---- the depth of a node is one more than its children's, at each level

greatest-unset : (ts : List Tree) (i : ℕ) → bit_at (union_of (map marks ts)) i ≡ 0
    → greatest (map (λ m. m.depth (suc i)) (map marks ts)) ≡ greatest (map (λ m. m.depth i) (map marks ts))
greatest-unset [] i e = refl
greatest-unset (t ∷ ts) i e =
    let o = bit_at_or (mask t) (union_of (map marks ts)) i in
    rw (depth-unset t i (omega (arith, o)), greatest-unset ts i (omega (arith, o))) refl

over-unset : (ts : List Tree) (i : ℕ) → bit_at (union_of (map marks ts)) i ≡ 0
    → depth_over (suc i) (map marks ts) ≡ depth_over i (map marks ts)
over-unset [] i e = refl
over-unset (t ∷ ts) i e = ap (λ (n : ℕ). 1 + n) (greatest-unset (t ∷ ts) i e)

pub depth-ordinary : (b : List ℕ) (ts : List Tree) (i : ℕ)
    → depth (tree_of Ordinary b ts) i ≡ depth_over i (map marks ts)
depth-ordinary b ts zero = depth-tree_of Ordinary b ts 0 ∙ depth-lowest Ordinary b (map marks ts) tt
depth-ordinary b ts (suc i) = ⊎_elim
    (λ (z : bit_at (union_of (map marks ts)) i ≡ 0).
    depth-unset (tree_of Ordinary b ts) i (rw (mask-tree_of Ordinary b ts) z) ∙ depth-ordinary b ts i
    ∙ sym (over-unset ts i z))
    (λ (o : bit_at (union_of (map marks ts)) i ≡ 1).
    let z : suc i + 0 ≡ suc i = omega arith in
    depth-tree_of Ordinary b ts (suc i) ∙ depth-set Ordinary b (map marks ts) i tt o
    ∙ ap (λ (n : ℕ). depth_over n (map marks ts)) z)
    (bit_cases (union_of (map marks ts)) i)

pub depth-proof : (b : List ℕ) (ts : List Tree) (i : ℕ)
    → depth (tree_of Proof b ts) i ≡ depth_over (suc i) (map marks ts)
depth-proof b ts zero = depth-tree_of Proof b ts 0 ∙ depth-lowest Proof b (map marks ts) tt
depth-proof b ts (suc i) =
    let u = union_of (map marks ts) in
    ⊎_elim
    (λ (z : bit_at (u / 2) i ≡ 0).
    depth-unset (tree_of Proof b ts) i (rw (mask-tree_of Proof b ts) z) ∙ depth-proof b ts i
    ∙ sym (over-unset ts (suc i) (bit_at-suc u i ∙ z)))
    (λ (o : bit_at (u / 2) i ≡ 1).
    let z : suc i + 1 ≡ suc (suc i) = omega arith in
    depth-tree_of Proof b ts (suc i) ∙ depth-set Proof b (map marks ts) i tt o
    ∙ ap (λ (n : ℕ). depth_over n (map marks ts)) z)
    (bit_cases (u / 2) i)

-- above the levels of its mask a tree has one depth
depth-above : (t : Tree) (i k : ℕ) → mask t < 2 ^ i → depth t (i + k) ≡ depth t i
depth-above t i zero h = let z : i + 0 ≡ i = omega arith in rw z refl
depth-above t i (suc k) h =
    let z : i + suc k ≡ suc (i + k) = omega arith in
    rw z (depth-unset t (i + k) (bit_at_above (mask t) i (i + k) h (omega arith)) ∙ depth-above t i k h)

-- ---- what is computed over pruned children is no deeper

-- at each level from i on no deeper than the tree at level i
abbrev pub IsNoDeeper : Tree → Tree → ℕ → Type 0
IsNoDeeper t p i = (k : ℕ) → depth p (i + k) ≤ depth t i

abbrev AllNoDeeper : List Tree → List Tree → ℕ → Type 0
AllNoDeeper ts ps i = (k : ℕ) → depth_over (i + k) (map marks ps) ≤ depth_over i (map marks ts)

over-more : (t p : Tree) (ts ps : List Tree) (i : ℕ) → IsNoDeeper t p i → AllNoDeeper ts ps i → length ts ≡ length ps
    → AllNoDeeper (t ∷ ts) (p ∷ ps) i
over-more t p [] [] i h a e k = omega (arith, h k)
over-more t p [] (q ∷ ps) i h a e k = absurd (omega arith)
over-more t p (u ∷ ts) [] i h a e k = absurd (omega arith)
over-more t p (u ∷ ts) (q ∷ ps) i h a e k = omega (arith, h k, a k)

stub-top : (m i : ℕ) → i ≤ 2 → set_bits (suc i) (m % 2 ^ i + 2 ^ i) ≡ set_bits i m + 1
unfolding set_bits
stub-top m zero h = omega arith
stub-top m (suc zero) h = omega arith
stub-top m (suc (suc zero)) h = omega arith
stub-top m (suc (suc (suc i))) h = absurd (omega arith)

stub-no_deeper : (t : Tree) (i : ℕ) → IsGood t → i ≤ 2 → IsNoDeeper t (stub t i) i
stub-no_deeper t i g h zero =
    let z : i + 0 ≡ i = omega arith in
    let e : depth (stub t i) i ≡ depth t i = ap (λ (m : ChildMark). m.depth) (stub-mark t i i g h (omega arith)) in
    rw z (omega arith)
stub-no_deeper t i g h (suc k) =
    let m = mask t % 2 ^ i + 2 ^ i in
    let ps = map (λ j. mark_at j (marks t)) (levels_in i (mask t)) in
    let c = stub-stores t i g h in
    let n = length-map (levels_in i (mask t)) (λ j. mark_at j (marks t)) in
    let w = set_bits-within (suc i) (i + suc k) m (omega arith) in
    omega (
      arith,
      depth-own m ps (i + suc k) c (omega (
        arith,
        n,
        w,
        length-levels_in i (mask t),
        stub-top (mask t) i h,
      )),
    )

mutual
  no_deeper : (t p : Tree) (i : ℕ) → Prunes t p i → IsGood t → mask t < 2 ^ i → IsNoDeeper t p i
  no_deeper t p i (same t' i') g h k = omega (arith, depth-above t i k h)
  no_deeper t p i (hidden t' i' b) g h k = stub-no_deeper t i g b k
  no_deeper t p i (ordinary bits ts ps i' all) g h k =
      let m = mask-tree_of Ordinary bits ts in
      let a = all_no_deeper ts ps i all (good-below Ordinary bits ts g) (omega (arith, m)) in
      rw (depth-ordinary bits ps (i + k), depth-ordinary bits ts i) (a.0 k)
  no_deeper t p i (proof bits c q i' small one) g h k =
      let m = mask-tree_of Proof bits (c ∷ []) in
      let z = or_zero_r (mask c) in
      let s : 2 ^ suc i ≡ 2 ^ i * 2 = pow-suc 2 i in
      let n = no_deeper c q (suc i) one (all_good-head c [] (good-below Proof bits (c ∷ []) g)) (omega (
        arith,
        m,
        z,
      )) k in
      let e : suc (i + k) ≡ suc i + k = omega arith in
      rw (depth-proof bits (q ∷ []) (i + k), depth-proof bits (c ∷ []) i, e) (omega arith)

  all_no_deeper : (ts ps : List Tree) (i : ℕ) → AllPrune ts ps i → AllGood ts → union_of (map marks ts) < 2 ^ i
      → AllNoDeeper ts ps i × (length ts ≡ length ps)
  all_no_deeper ts ps i (none i') g h = ((λ k. omega arith), refl)
  all_no_deeper ts ps i (more t p us qs i' one all) g h =
      let n = no_deeper t p i one (all_good-head t us g) (omega (arith, le_or_l (mask t) (union_of (map marks us)))) in
      let r = all_no_deeper us qs i all (all_good-tail t us g) (omega (
        arith,
        le_or_r (mask t) (union_of (map marks us)),
      )) in
      (over-more t p us qs i n r.0 r.1, omega (arith, r.1))

-- ---- the tree is good

shallow-pruned : (t p : Tree) (i : ℕ) → KeepsTo t p i → IsNoDeeper t p i → IsGood t → i ≤ 3 → IsShallow p
shallow-pruned t p i k n g h =
    omega (arith, low 0 (omega arith), low 1 (omega arith), low 2 (omega arith), low 3 (omega arith))
  where
    low : (l : ℕ) → l ≤ 3 → depth p l ≤ 1024
    low l b = ⊎_elim
        (λ (x : l < i).
        omega (arith, ap (λ (m : ChildMark). m.depth) (k.marks_kept l (omega arith)), good-depth t l g b))
        (λ (x : i ≤ l).
        let e : i + (l - i) ≡ l = omega arith in
        omega (arith, ap (depth p) e, n (l - i), good-depth t i g h))
        (cases_lt l i)

sound-parts : (k : Kind) (b : List ℕ) (ts : List Tree) → IsGood (tree_of k b ts)
    → AreBits b × (length b ≤ 1023) × (length ts ≤ 4) × IsTrue (has_layout k b (length ts))
sound-parts k b ts g =
    let s = good-sound (tree_of k b ts) g in
    let P : Tree-F Tree → Type 0 =
    λ n. AreBits n.bits × (length n.bits ≤ 1023) × (length n.children ≤ 4)
    × IsTrue (has_layout n.kind n.bits (length n.children)) in
    subst P (out-tree_of k b ts) (s.bits, s.short, s.few, s.layout)

AreBits-hashes : (ps : List ChildMark) → AreBits (flat_map hash_bits ps)
AreBits-hashes [] = tt
AreBits-hashes (p ∷ ps) =
    AreBits-append (hash_bits p) (flat_map hash_bits ps) (AreBits-bits_of p.hash) (AreBits-hashes ps)

AreBits-depths : (ps : List ChildMark) → AreBits (flat_map depth_bits ps)
AreBits-depths [] = tt
AreBits-depths (p ∷ ps) =
    AreBits-append (depth_bits p) (flat_map depth_bits ps) (AreBits-spelled 16 p.depth) (AreBits-depths ps)

AreBits-pruned : (m : ℕ) (ps : List ChildMark) → AreBits (pruned_bits m ps)
AreBits-pruned m ps =
    AreBits-append (spelled 8 1) _ (AreBits-spelled 8 1)
    (AreBits-append (spelled 8 m) _ (AreBits-spelled 8 m)
    (AreBits-append (flat_map hash_bits ps) (flat_map depth_bits ps) (AreBits-hashes ps) (AreBits-depths ps)))

pub stub-good : (t : Tree) (i : ℕ) → IsGood t → i ≤ 2 → IsGood (stub t i)
stub-good t i g h =
    let m = mask t % 2 ^ i + 2 ^ i in
    let ps = map (λ j. mark_at j (marks t)) (levels_in i (mask t)) in
    let c = stub-stores t i g h in
    good-tree_of Pruned (pruned_bits m ps) [] (AreBits-pruned m ps)
    (omega (arith, length-pruned m ps c.pairs, c.count, set_bits-le 3 m)) (omega arith)
    (pruned-layout m ps c) (pruned-shallow m ps c) no_trees

mutual
  pub prunes-good : (t p : Tree) (i : ℕ) → Prunes t p i → IsGood t → mask t < 2 ^ i → i ≤ 3 → IsGood p
  prunes-good t p i (same t' i') g h l = g
  prunes-good t p i (hidden t' i' b) g h l = stub-good t i g b
  prunes-good t p i (ordinary bits ts ps i' all) g h l =
      let m = mask-tree_of Ordinary bits ts in
      let s = sound-parts Ordinary bits ts g in
      let a = all_no_deeper ts ps i all (good-below Ordinary bits ts g) (omega (arith, m)) in
      let whole : Prunes (tree_of Ordinary bits ts) (tree_of Ordinary bits ps) i = ordinary bits ts ps i all in
      good-tree_of Ordinary bits ps s.0 s.1 (omega (arith, s.2, a.1)) refl
      (shallow-pruned _ _ i (prunes-keeps _ _ i whole g h) (no_deeper _ _ i whole g h) g l)
      (all-prunes-good ts ps i all (good-below Ordinary bits ts g) (omega (arith, m)) l)
  prunes-good t p i (proof bits c q i' small one) g h l =
      let m = mask-tree_of Proof bits (c ∷ []) in
      let z = or_zero_r (mask c) in
      let r : 2 ^ suc i ≡ 2 ^ i * 2 = pow-suc 2 i in
      let s = sound-parts Proof bits (c ∷ []) g in
      let whole : Prunes (tree_of Proof bits (c ∷ [])) (tree_of Proof bits (q ∷ [])) i = proof bits c q i small one in
      good-tree_of Proof bits (q ∷ []) s.0 s.1 (omega arith) s.3
      (shallow-pruned _ _ i (prunes-keeps _ _ i whole g h) (no_deeper _ _ i whole g h) g l)
      (more_trees q []
      (prunes-good c q (suc i) one (all_good-head c [] (good-below Proof bits (c ∷ []) g)) (omega (
        arith,
        m,
        z,
      )) (omega arith))
      no_trees)

  all-prunes-good : (ts ps : List Tree) (i : ℕ) → AllPrune ts ps i → AllGood ts → union_of (map marks ts) < 2 ^ i
      → i ≤ 3 → AllGood ps
  all-prunes-good ts ps i (none i') g h l = no_trees
  all-prunes-good ts ps i (more t p us qs i' one all) g h l =
      more_trees p qs
      (prunes-good t p i one (all_good-head t us g) (omega (arith, le_or_l (mask t) (union_of (map marks us)))) l)
      (all-prunes-good us qs i all (all_good-tail t us g) (omega (arith, le_or_r (mask t) (union_of (map marks us)))) l)
