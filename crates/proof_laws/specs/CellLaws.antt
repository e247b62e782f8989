-- Masks of a pruned tree, and the cell of its proof.
use Rattle.std.proofs.Common.{◌≡◌, ℕ, zero, suc, ◌+◌, ◌*◌, ◌%◌, ◌^◌, ◌<◌, ◌≤◌, List, [], ◌∷◌}
use Rattle.std.proofs.Common.{◌++◌, length, map, Some, refl, sym, ap, ◌∙◌, subst, arith, append_assoc}
use Rattle.std.specs.Prelude.{slice_get}
use Rattle.std.specs.Int.Bits.{or_zero_r}
use Rattle.std.proofs.Math.Nat.{pow-suc}
use Rattle.std.proofs.Math.Pow.{pow_mono}
use Rattle.std.proofs.lemmas.Nat.{le_or_l, le_or_r, or_lt}
use Rattle.std.proofs.lemmas.Nat.Bits.{bit_at_above}
use Rattle.std.proofs.lemmas.List.{append-nil, length-append}
use Rattle.bit_slice.specs.Bits.{spelled}
use Rattle.bit_slice.specs.BitLists.{AreBits-append, AreBits-spelled, length-spelled}
use Rattle.cell_hash.specs.declared.Content.TheVariants.{Data}
use Rattle.cell_nodes.specs.BytesLaws.{AreBits-bits_of, length-bits_of, hash_from-at, depth_from-at}
use Rattle.cell_nodes.specs.Constructed.{stub, bits_of, proof_bits, proof_of}
use Rattle.cell_nodes.specs.ConstructedLaws.{length-hash, proof-layout}
use Rattle.cell_nodes.specs.Equations.{out-tree_of, mask-tree_of, hash-tree_of}
use Rattle.cell_nodes.specs.Good.{IsGood, AllGood, none as no_trees, more as more_trees}
use Rattle.cell_nodes.specs.GoodParts.{good-depth, good-tree_of, all_good-head, all_good-tail}
use Rattle.cell_nodes.specs.Layout.{hash_from, depth_from}
use Rattle.cell_nodes.specs.MarksLaws.{depth-unset, hash-unset, hash-lowest}
use Rattle.cell_nodes.specs.Prunes.{Prunes, same, hidden, ordinary, proof, AllPrune, none, more}
use Rattle.cell_nodes.specs.PrunesGoodLaws.{depth-proof}
use Rattle.cell_nodes.specs.PrunesLaws.{AreBytes-hash, good-below, mask-stub}
use Rattle.cell_nodes.specs.Tree.{marks, mask, depth, hash, hash_with, deepest, IsShallow, union_of}
use Rattle.cell_nodes.specs.declared.tree.Kind.TheVariants.{Ordinary, Proof}
use Rattle.cell_nodes.specs.declared.tree.Tree.{Tree, out-Tree}
use Rattle.cell_nodes.specs.declared.tree.Tree.TheOpen.{Tree-F}
use Rattle.proof_laws.specs.Laws.{PrunedIsLow, ProofCell}
use Rattle.proof_laws.specs.Nodes.{StandsIn, here, below}
use Rattle.proof_laws.specs.Viewing.{kept_hash, kept_depth, IsSealed}

-- ---- masks

twice : (i : ℕ) → 2 ^ suc i ≡ 2 ^ i * 2
twice i = pow-suc 2 i

one_le-pow : (i : ℕ) → 1 ≤ 2 ^ i
one_le-pow i = pow_mono {i = 0} {j = i} (omega arith)

below-pow : (m i : ℕ) → m % 2 ^ i < 2 ^ i
below-pow m i = let o = one_le-pow i in omega arith

mutual
  -- pruning below i proofs sets no bit above bit i
  pub prunes-low : (t p : Tree) (i : ℕ) → Prunes t p i → IsGood t → mask t < 2 ^ i → mask p < 2 ^ suc i
  prunes-low t p i (same t' i') g h = omega (arith, twice i, h)
  prunes-low t p i (hidden t' i' k) g h =
      let s : mask (stub t i) ≡ mask t % 2 ^ i + 2 ^ i = mask-stub t i g k in
      let l = below-pow (mask t) i in
      omega (arith, twice i, s, l)
  prunes-low t p i (ordinary bits ts ps i' all) g h =
      let m = mask-tree_of Ordinary bits ts in
      let n = mask-tree_of Ordinary bits ps in
      let a = all-low ts ps i all (good-below Ordinary bits ts g) (omega (arith, m, h)) in
      omega (arith, n, a)
  prunes-low t p i (proof bits c q i' small one) g h =
      let m = mask-tree_of Proof bits (c ∷ []) in
      let n = mask-tree_of Proof bits (q ∷ []) in
      let z = or_zero_r (mask c) in
      let y = or_zero_r (mask q) in
      let s = twice i in
      let u = twice (suc i) in
      let b : mask c < 2 ^ suc i = omega (arith, m, z, s, h) in
      let k = prunes-low c q (suc i) one (all_good-head c [] (good-below Proof bits (c ∷ []) g)) b in
      omega (arith, n, y, u, k)

  all-low : (ts ps : List Tree) (i : ℕ) → AllPrune ts ps i → AllGood ts → union_of (map marks ts) < 2 ^ i
      → union_of (map marks ps) < 2 ^ suc i
  all-low ts ps i (none i') g h = one_le-pow (suc i)
  all-low ts ps i (more t p us qs i' one all) g h =
      let a = prunes-low t p i one (all_good-head t us g) (omega (
        arith,
        h,
        le_or_l (mask t) (union_of (map marks us)),
      )) in
      let r = le_or_r (mask t) (union_of (map marks us)) in
      let b = all-low us qs i all (all_good-tail t us g) (omega (arith, h, r)) in
      or_lt (suc i) (mask p) (union_of (map marks qs)) a b

-- each child's bits are among those of the children's union
child-within : (ts : List Tree) (i : ℕ) (t : Tree) → slice_get ts i ≡ Some t → mask t ≤ union_of (map marks ts)
child-within [] i t e = absurd (grind arith)
child-within (u ∷ ts) zero t e =
    let s : u ≡ t = cc in
    let P : Tree → Type 0 = λ z. mask z ≤ union_of (map marks (u ∷ ts)) in
    subst P s (le_or_l (mask u) (union_of (map marks ts)))
child-within (u ∷ ts) (suc i) t e =
    let h = child-within ts i t e in
    omega (arith, h, le_or_r (mask u) (union_of (map marks ts)))

pub node-within : (n t : Tree) → StandsIn n t → mask n ≤ mask t
node-within n t (here t') = omega arith
node-within n t (below n' bits ts i u e s) =
    let h = node-within n u s in
    let c = child-within ts i u e in
    let m = mask-tree_of Ordinary bits ts in
    omega (arith, h, c, m)

-- ---- the cell of a proof

pub mask-proof_of : (p : Tree) → mask p < 2 → mask (proof_of p) ≡ 0
mask-proof_of p h =
    let m = mask-tree_of Proof (proof_bits (hash p 0) (depth p 0)) (p ∷ []) in
    let z = or_zero_r (mask p) in
    omega (arith, m, z, h)

-- above level 1 a tree of mask 0 or 1 has the depth of level 1
depth-above : (p : Tree) (i : ℕ) → mask p < 2 → depth p (suc i) ≡ depth p 1
depth-above p zero h = refl
depth-above p (suc i) h =
    depth-unset p (suc i) (bit_at_above (mask p) 1 (suc i) (omega (arith, h)) (omega arith)) ∙ depth-above p i h

pub depth-proof_of : (p : Tree) (i : ℕ) → mask p < 2 → depth (proof_of p) i ≡ 1 + depth p 1
depth-proof_of p i h =
    let d = depth-proof (proof_bits (hash p 0) (depth p 0)) (p ∷ []) i in
    let a = depth-above p i h in
    omega (arith, d, a)

pub deepest-proof_of : (p : Tree) → mask p < 2 → deepest (proof_of p) ≡ 1 + depth p 1
deepest-proof_of p h =
    omega (
      arith,
      depth-proof_of p 0 h,
      depth-proof_of p 1 h,
      depth-proof_of p 2 h,
      depth-proof_of p 3 h,
    )

length-proof : (h : List ℕ) (d : ℕ) → length h ≡ 32 → length (proof_bits h d) ≡ 280
length-proof h d l =
    omega (
      arith,
      length-append (spelled 8 3) (bits_of h ++ spelled 16 d),
      length-append (bits_of h) (spelled 16 d),
      length-spelled 8 3,
      length-bits_of h,
      length-spelled 16 d,
      l,
    )

-- the content is the type, the hash and the depth of 34 bytes and more, and the child is taken at level 1
pub hash-proof_of : (p : Tree) (i : ℕ) → mask p < 2
    → hash (proof_of p) i
    ≡ hash_with Proof 0 280 (Data (proof_bits (hash p 0) (depth p 0))) 0 (map marks (p ∷ []))
hash-proof_of p zero h =
    let bits = proof_bits (hash p 0) (depth p 0) in
    hash-tree_of Proof bits (p ∷ []) 0 ∙ hash-lowest Proof bits (map marks (p ∷ [])) tt
    ∙ ap (λ (n : ℕ). hash_with Proof 0 n (Data (proof_bits (hash p 0) (depth p 0))) 0 (map marks (p ∷ [])))
    (length-proof (hash p 0) (depth p 0) (length-hash p 0))
hash-proof_of p (suc i) h =
    let m = mask-proof_of p h in
    hash-unset (proof_of p) i (bit_at_above (mask (proof_of p)) 0 i (omega (arith, m)) (omega arith))
    ∙ hash-proof_of p i h

bits-proof_of : (p : Tree) → (out-Tree (proof_of p)).bits ≡ proof_bits (hash p 0) (depth p 0)
bits-proof_of p = ap (λ (n : Tree-F Tree). n.bits) (out-tree_of Proof (proof_bits (hash p 0) (depth p 0)) (p ∷ []))

pub kept_hash-proof_of : (p : Tree) → IsGood p → kept_hash (proof_of p) ≡ hash p 0
kept_hash-proof_of p g =
    ap (hash_from 8) (bits-proof_of p)
    ∙ hash_from-at 8 (spelled 8 3) (hash p 0) (spelled 16 (depth p 0)) (length-spelled 8 3) (length-hash p 0)
    (AreBytes-hash p 0 g)

pub kept_depth-proof_of : (p : Tree) → IsGood p → kept_depth (proof_of p) ≡ depth p 0
kept_depth-proof_of p g =
    let regroup : proof_bits (hash p 0) (depth p 0)
    ≡ (spelled 8 3 ++ bits_of (hash p 0)) ++ (spelled 16 (depth p 0) ++ []) =
    sym (append_assoc (spelled 8 3) (bits_of (hash p 0)) (spelled 16 (depth p 0)))
    ∙ ap (λ (x : List ℕ). (spelled 8 3 ++ bits_of (hash p 0)) ++ x) (sym (append-nil (spelled 16 (depth p 0)))) in
    let size : length (spelled 8 3 ++ bits_of (hash p 0)) ≡ 264 =
    omega (
      arith,
      length-append (spelled 8 3) (bits_of (hash p 0)),
      length-spelled 8 3,
      length-bits_of (hash p 0),
      length-hash p 0,
    ) in
    let low = good-depth p 0 g (omega arith) in
    ap (depth_from 264) (bits-proof_of p ∙ regroup)
    ∙ depth_from-at 264 (spelled 8 3 ++ bits_of (hash p 0)) (depth p 0) [] size (omega (arith, low))

pub seals : (p : Tree) → IsGood p → mask p < 2 → IsSealed (proof_of p) p
seals p g h = record {
  whole = mask-proof_of p h;
  same_hash = kept_hash-proof_of p g;
  same_depth = kept_depth-proof_of p g;
}

pub good-proof_of : (p : Tree) → IsGood p → IsShallow (proof_of p) → IsGood (proof_of p)
good-proof_of p g low =
    let size = length-proof (hash p 0) (depth p 0) (length-hash p 0) in
    let long : length (proof_bits (hash p 0) (depth p 0)) ≤ 1023 = omega (arith, size) in
    good-tree_of Proof (proof_bits (hash p 0) (depth p 0)) (p ∷ [])
    (AreBits-append (spelled 8 3) _ (AreBits-spelled 8 3)
    (AreBits-append (bits_of (hash p 0)) (spelled 16 (depth p 0)) (AreBits-bits_of (hash p 0))
    (AreBits-spelled 16 (depth p 0))))
    long (omega arith) (proof-layout (hash p 0) (depth p 0) (length-hash p 0)) low (more_trees p [] g no_trees)

pub pruned_is_low : PrunedIsLow
pruned_is_low c p sound whole prunes n stands =
    let level : mask c < 2 ^ 0 = omega (arith, whole) in
    let l = prunes-low c p 0 prunes sound level in
    let w = node-within n p stands in
    omega (arith, l, w)

pub proof_cell : ProofCell
proof_cell p sound low =
    let l : mask p < 2 = omega (arith, low) in
    record {
      sealed = seals p sound l;
      depths = λ i. depth-proof_of p i l;
      hashes = λ i. hash-proof_of p i l;
      good = good-proof_of p sound;
    }
