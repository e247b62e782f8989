-- Laws on the cells that the constructors of exotic cells state.
use Rattle.std.specs.Prelude.{◌≡◌, ℕ, ◌+◌, ◌*◌, ◌%◌, ◌^◌, nat_lt, ◌≤◌, ◌<◌, IsTrue}
use Rattle.std.specs.Prelude.{List, [], ◌∷◌, ◌++◌, length, map, if◌then◌else◌}
use Rattle.std.specs.List.{flat_map}
use Rattle.std.specs.Prelude.{zero, suc, Bool, true, false, drop}
use Rattle.std.specs.Int.{bit_at}
use Rattle.std.proofs.Common.{arith, ap, ◌∙◌, refl, get_or, ⊎_elim}
use Rattle.std.proofs.Math.Pow.{pow_mono}
use Rattle.std.proofs.lemmas.Bool.{and_from, eq-eqb, le-leb, lt-ltb, le-ltb, cases_lt}
use Rattle.std.proofs.lemmas.List.{length-append, length-map, map-append}
use Rattle.bit_slice.specs.Bits.{spelled}
use Rattle.bit_slice.specs.BitLists.{length-spelled}
use Rattle.cell_hash.specs.declared.ChildMark.{ChildMark}
use Rattle.cell_nodes.specs.declared.tree.Kind.{Kind}
use Rattle.cell_nodes.specs.declared.tree.Kind.TheVariants.{Ordinary, Pruned, Library, Proof, Update}
use Rattle.cell_nodes.specs.declared.tree.Tree.{Tree, out-Tree}
use Rattle.cell_nodes.specs.BytesLaws.{AreBytes, IsPair, ArePairs, ArePairs-low, ArePairs-append, length-sha256}
use Rattle.cell_nodes.specs.BytesLaws.{length-groups, length-bits_of, length-hashes, length-depths}
use Rattle.cell_nodes.specs.BytesLaws.{byte_of-first, byte_of-second, drop_after, hash-among, depth-among}
use Rattle.cell_nodes.specs.Constructed.{bits_of, hash_bits, depth_bits, pruned_bits, library_bits, proof_bits}
use Rattle.cell_nodes.specs.Constructed.{update_bits, pruned_with, library_of}
use Rattle.cell_nodes.specs.Equations.{depth-tree_of, hash-tree_of, marks-out}
use Rattle.cell_nodes.specs.Good.{IsGood}
use Rattle.cell_nodes.specs.GoodParts.{good-depth}
use Rattle.cell_nodes.specs.LevelsLaws.{bit_cases, levels_in-zero, levels_in-set, levels_in-unset, length-levels_in}
use Rattle.cell_nodes.specs.Layout.{byte_of, depth_from, has_layout, pair_count, stored_mask, stored_hash, stored_depth}
use Rattle.cell_nodes.specs.Levels.{set_bits, levels_in}
use Rattle.cell_nodes.specs.Tree.{Marks, marks, mark_at, mask, depth, hash, hash_of, own_hash}
use Rattle.cell_nodes.specs.Tree.{computed_hash, IsShallow}

-- a mask and pairs that a pruned branch can store
pub record CanStore (m : ℕ) (ps : List ChildMark) : Type 0 where
  pub some : 1 ≤ m
  pub low : m ≤ 7
  pub count : length ps ≡ pair_count m
  pub pairs : ArePairs ps

-- ---- what the bits of a pruned branch hold

pub stored_mask-is : (m : ℕ) (ps : List ChildMark) → CanStore m ps → stored_mask (pruned_bits m ps) ≡ m
stored_mask-is m ps h = byte_of-second 1 m (flat_map hash_bits ps ++ flat_map depth_bits ps) (omega (arith, h.low))

pub length-pruned : (m : ℕ) (ps : List ChildMark) → ArePairs ps → length (pruned_bits m ps) ≡ 16 + 272 * length ps
length-pruned m ps h =
    omega (
      arith,
      length-append (spelled 8 1) (spelled 8 m ++ (flat_map hash_bits ps ++ flat_map depth_bits ps)),
      length-append (spelled 8 m) (flat_map hash_bits ps ++ flat_map depth_bits ps),
      length-append (flat_map hash_bits ps) (flat_map depth_bits ps),
      length-spelled 8 1,
      length-spelled 8 m,
      length-hashes ps h,
      length-depths ps,
    )

pruned_layout-of : (b : List ℕ) → byte_of 0 b ≡ 1 → 1 ≤ stored_mask b → stored_mask b ≤ 7
    → length b ≡ 16 + 272 * pair_count (stored_mask b) → IsTrue (has_layout Pruned b 0)
pruned_layout-of b t s l n =
    and_from _ _ (and_from _ _ (and_from _ _ (and_from _ _ refl (eq-eqb _ _ t)) (le-leb _ _ s)) (le-leb _ _ l))
    (eq-eqb _ _ n)

pub pruned-layout : (m : ℕ) (ps : List ChildMark) → CanStore m ps → IsTrue (has_layout Pruned (pruned_bits m ps) 0)
pruned-layout m ps h =
    let e : stored_mask (pruned_bits m ps) ≡ m = stored_mask-is m ps h in
    pruned_layout-of (pruned_bits m ps)
    (byte_of-first 1 (spelled 8 m ++ (flat_map hash_bits ps ++ flat_map depth_bits ps)) (omega arith))
    (rw e h.some) (rw e h.low) (rw (e, ← h.count) (length-pruned m ps h.pairs))

-- after the type and the mask
after_two : (m n : ℕ) (rest : List ℕ) → drop (16 + n) (spelled 8 1 ++ (spelled 8 m ++ rest)) ≡ drop n rest
after_two m n rest =
    let e : 16 + n ≡ 8 + (8 + n) = omega arith in
    rw (e, drop_after (spelled 8 1) (spelled 8 m ++ rest) 8 (8 + n) (length-spelled 8 1))
    (drop_after (spelled 8 m) rest 8 n (length-spelled 8 m))

pub stored_hash-is : (m : ℕ) (ps : List ChildMark) (j : ℕ) (d : ChildMark) → CanStore m ps → j < length ps
    → AreBytes (get_or ps j d).hash → stored_hash j (pruned_bits m ps) ≡ (get_or ps j d).hash
stored_hash-is m ps j d h l b =
    rw (after_two m (256 * j) (flat_map hash_bits ps ++ flat_map depth_bits ps))
    (hash-among ps j (flat_map depth_bits ps) d h.pairs l b)

pub stored_depth-is : (m : ℕ) (ps : List ChildMark) (j : ℕ) (d : ChildMark) → CanStore m ps → j < length ps
    → stored_depth j (pruned_bits m ps) ≡ (get_or ps j d).depth
stored_depth-is m ps j d h l =
    let e : 16 + 256 * pair_count (stored_mask (pruned_bits m ps)) + 16 * j ≡ 16 + (256 * length ps + 16 * j) =
    omega (arith, h.count, ap pair_count (stored_mask-is m ps h)) in
    ap (λ (n : ℕ). depth_from n (pruned_bits m ps)) e
    ∙ rw (
      after_two m (256 * length ps + 16 * j) (flat_map hash_bits ps ++ flat_map depth_bits ps),
      drop_after (flat_map hash_bits ps) (flat_map depth_bits ps) (256 * length ps) (16 * j) (length-hashes ps h.pairs),
    )
    (depth-among ps j d h.pairs l)

-- ---- the depths and the hashes of a pruned branch

abbrev depth_place : ℕ → List ℕ → ℕ → ℕ
depth_place i bits m = if nat_lt (set_bits i m) (pair_count m) then stored_depth (set_bits i m) bits else 0

abbrev hash_place : ℕ → List ℕ → ℕ → List ℕ
hash_place i bits m = if nat_lt (set_bits i m) (pair_count m) then stored_hash (set_bits i m) bits else own_hash bits

pub depth-stored : (m : ℕ) (ps : List ChildMark) (i : ℕ) (d : ChildMark) → CanStore m ps → set_bits i m < length ps
    → depth (pruned_with m ps) i ≡ (get_or ps (set_bits i m) d).depth
depth-stored m ps i d h l =
    let b = pruned_bits m ps in
    let t : nat_lt (set_bits i m) (pair_count m) ≡ true = lt-ltb _ _ (omega (arith, h.count)) in
    let e : depth_place i b m ≡ (get_or ps (set_bits i m) d).depth = rw t (stored_depth-is m ps (set_bits i m) d h l) in
    depth-tree_of Pruned b [] i ∙ ap (depth_place i b) (stored_mask-is m ps h) ∙ e

pub hash-stored : (m : ℕ) (ps : List ChildMark) (i : ℕ) (d : ChildMark) → CanStore m ps → set_bits i m < length ps
    → AreBytes (get_or ps (set_bits i m) d).hash → hash (pruned_with m ps) i ≡ (get_or ps (set_bits i m) d).hash
hash-stored m ps i d h l a =
    let b = pruned_bits m ps in
    let t : nat_lt (set_bits i m) (pair_count m) ≡ true = lt-ltb _ _ (omega (arith, h.count)) in
    let e : hash_place i b m ≡ (get_or ps (set_bits i m) d).hash = rw t (stored_hash-is m ps (set_bits i m) d h l a) in
    hash-tree_of Pruned b [] i ∙ ap (hash_place i b) (stored_mask-is m ps h) ∙ e

pub depth-own : (m : ℕ) (ps : List ChildMark) (i : ℕ) → CanStore m ps → length ps ≤ set_bits i m
    → depth (pruned_with m ps) i ≡ 0
depth-own m ps i h l =
    let b = pruned_bits m ps in
    let t : nat_lt (set_bits i m) (pair_count m) ≡ false = le-ltb _ _ (omega (arith, h.count)) in
    let e : depth_place i b m ≡ 0 = rw t refl in
    depth-tree_of Pruned b [] i ∙ ap (depth_place i b) (stored_mask-is m ps h) ∙ e

pruned-low : (m : ℕ) (ps : List ChildMark) (i : ℕ) → CanStore m ps → depth (pruned_with m ps) i ≤ 1024
pruned-low m ps i h =
    let d : ChildMark = record { depth = 0; hash = [] } in
    ⊎_elim
    (λ (l : set_bits i m < length ps). omega (
      arith,
      depth-stored m ps i d h l,
      ArePairs-low ps (set_bits i m) d h.pairs l,
    ))
    (λ (l : length ps ≤ set_bits i m). omega (arith, depth-own m ps i h l))
    (cases_lt (set_bits i m) (length ps))

pub pruned-shallow : (m : ℕ) (ps : List ChildMark) → CanStore m ps → IsShallow (pruned_with m ps)
pruned-shallow m ps h =
    omega (arith, pruned-low m ps 0 h, pruned-low m ps 1 h, pruned-low m ps 2 h, pruned-low m ps 3 h)

-- one pair, of mask 1
pub one-pair : (hash : List ℕ) (depth : ℕ) → length hash ≡ 32 → depth ≤ 1024
    → CanStore 1 (record { depth = depth; hash = hash } ∷ [])
unfolding set_bits
one-pair hash depth l h = record {
  some = omega arith;
  low = omega arith;
  count = refl;
  pairs = (record { whole = l; low = h }, tt);
}

-- ---- the other kinds

pub library-layout : (hash : List ℕ) → length hash ≡ 32 → IsTrue (has_layout Library (library_bits hash) 0)
library-layout hash l =
    let n : length (library_bits hash) ≡ 264 =
    omega (arith, length-append (spelled 8 2) (bits_of hash), length-spelled 8 2, length-bits_of hash) in
    and_from _ _ (and_from _ _ (eq-eqb _ _ n) refl) (eq-eqb _ _ (byte_of-first 2 (bits_of hash) (omega arith)))

pub library-shallow : (hash : List ℕ) → IsShallow (library_of hash)
library-shallow hash =
    let b = library_bits hash in
    omega (
      arith,
      depth-tree_of Library b [] 0,
      depth-tree_of Library b [] 1,
      depth-tree_of Library b [] 2,
      depth-tree_of Library b [] 3,
    )

pub proof-layout : (hash : List ℕ) (depth : ℕ) → length hash ≡ 32 → IsTrue (has_layout Proof (proof_bits hash depth) 1)
proof-layout hash depth l =
    let n : length (proof_bits hash depth) ≡ 280 =
    omega (
      arith,
      length-append (spelled 8 3) (bits_of hash ++ spelled 16 depth),
      length-append (bits_of hash) (spelled 16 depth),
      length-spelled 8 3,
      length-bits_of hash,
      length-spelled 16 depth,
    ) in
    and_from _ _ (and_from _ _ (eq-eqb _ _ n) refl)
    (eq-eqb _ _ (byte_of-first 3 (bits_of hash ++ spelled 16 depth) (omega arith)))

pub update-layout : (old new : List ℕ) (old_depth new_depth : ℕ) → length old ≡ 32 → length new ≡ 32
    → IsTrue (has_layout Update (update_bits old new old_depth new_depth) 2)
update-layout old new x y k l =
    let n : length (update_bits old new x y) ≡ 552 =
    omega (
      arith,
      length-append (spelled 8 4) (bits_of old ++ (bits_of new ++ (spelled 16 x ++ spelled 16 y))),
      length-append (bits_of old) (bits_of new ++ (spelled 16 x ++ spelled 16 y)),
      length-append (bits_of new) (spelled 16 x ++ spelled 16 y),
      length-append (spelled 16 x) (spelled 16 y),
      length-spelled 8 4,
      length-bits_of old,
      length-bits_of new,
      length-spelled 16 x,
      length-spelled 16 y,
    ) in
    and_from _ _ (and_from _ _ (eq-eqb _ _ n) refl)
    (eq-eqb _ _ (byte_of-first 4 (bits_of old ++ (bits_of new ++ (spelled 16 x ++ spelled 16 y))) (omega arith)))

-- ---- hashes have 32 bytes

length-computed : (k : Kind) (b : List ℕ) (m : ℕ) (ms : List Marks) (i : ℕ) → length (computed_hash k b m ms i) ≡ 32
length-computed k b m ms zero = length-sha256 _
length-computed k b m ms (suc i) = ⊎_elim
    (λ (e : bit_at m i ≡ 0). rw e (length-computed k b m ms i))
    (λ (e : bit_at m i ≡ 1). rw e (length-sha256 _))
    (bit_cases m i)

length-choice : (t : Bool) (x y : List ℕ) → length x ≡ 32 → length y ≡ 32 → length (if t then x else y) ≡ 32
length-choice true x y h k = h
length-choice false x y h k = k

length-hash_of : (k : Kind) (b : List ℕ) (ms : List Marks) (i : ℕ) → length (hash_of k b ms i) ≡ 32
length-hash_of Ordinary b ms i = length-computed Ordinary b _ ms i
length-hash_of Pruned b ms i = length-choice _ _ _ (length-groups 32 _) (length-sha256 _)
length-hash_of Library b ms i = length-computed Library b _ ms i
length-hash_of Proof b ms i = length-computed Proof b _ ms i
length-hash_of Update b ms i = length-computed Update b _ ms i

pub length-hash : (t : Tree) (i : ℕ) → length (hash t i) ≡ 32
length-hash t i =
    ap (λ (m : Marks). length (m.hash i)) (marks-out t)
    ∙ length-hash_of (out-Tree t).kind (out-Tree t).bits (map marks (out-Tree t).children) i

-- ---- the pruned branch that stands for a tree

stub-bits : (m i : ℕ) → i ≤ 2 → set_bits 3 (m % 2 ^ i + 2 ^ i) ≡ set_bits i m + 1
unfolding set_bits
stub-bits m zero h = omega arith
stub-bits m (suc zero) h = omega arith
stub-bits m (suc (suc zero)) h = omega arith
stub-bits m (suc (suc (suc i))) h = absurd (omega arith)

-- below the level of the branch its mask has the bits of the tree's
pub stub-same : (m i l : ℕ) → i ≤ 2 → l ≤ i → set_bits l (m % 2 ^ i + 2 ^ i) ≡ set_bits l m
unfolding set_bits
stub-same m zero zero h k = refl
stub-same m (suc zero) zero h k = refl
stub-same m (suc zero) (suc zero) h k = omega arith
stub-same m (suc (suc zero)) zero h k = refl
stub-same m (suc (suc zero)) (suc zero) h k = omega arith
stub-same m (suc (suc zero)) (suc (suc zero)) h k = omega arith
stub-same m zero (suc l) h k = absurd (omega arith)
stub-same m (suc zero) (suc (suc l)) h k = absurd (omega arith)
stub-same m (suc (suc zero)) (suc (suc (suc l))) h k = absurd (omega arith)
stub-same m (suc (suc (suc i))) l h k = absurd (omega arith)

stub-some : (m i : ℕ) → 1 ≤ m % 2 ^ i + 2 ^ i
stub-some m i =
    let p : 1 ≤ 2 ^ i = pow_mono {i = 0} {j = i} (omega arith) in omega arith

stub-low : (m i : ℕ) → i ≤ 2 → m % 2 ^ i + 2 ^ i ≤ 7
stub-low m zero h = omega arith
stub-low m (suc zero) h = omega arith
stub-low m (suc (suc zero)) h = omega arith
stub-low m (suc (suc (suc i))) h = absurd (omega arith)

pub mark-pair : (t : Tree) (j : ℕ) → IsGood t → j ≤ 3 → IsPair (mark_at j (marks t))
mark-pair t j g h = record { whole = length-hash t j; low = good-depth t j g h }

pub marks-pairs : (t : Tree) (i m : ℕ) → IsGood t → i ≤ 3 → ArePairs (map (λ j. mark_at j (marks t)) (levels_in i m))
marks-pairs t zero m g h = rw (levels_in-zero m) (mark-pair t 0 g (omega arith), tt)
marks-pairs t (suc i) m g h = ⊎_elim
    (λ (e : bit_at m i ≡ 0). rw (levels_in-unset i m e) (marks-pairs t i m g (omega arith)))
    (λ (e : bit_at m i ≡ 1).
    rw (levels_in-set i m e, map-append (λ j. mark_at j (marks t)) (levels_in i m) (suc i ∷ []))
    (ArePairs-append _ _ (marks-pairs t i m g (omega arith)) (mark-pair t (suc i) g h, tt)))
    (bit_cases m i)

pub stub-stores : (t : Tree) (i : ℕ) → IsGood t → i ≤ 2
    → CanStore (mask t % 2 ^ i + 2 ^ i) (map (λ j. mark_at j (marks t)) (levels_in i (mask t)))
stub-stores t i g h = record {
  some = stub-some (mask t) i;
  low = stub-low (mask t) i h;
  count = omega (
    arith,
    length-map (levels_in i (mask t)) (λ j. mark_at j (marks t)),
    length-levels_in i (mask t),
    stub-bits (mask t) i h,
  );
  pairs = marks-pairs t i (mask t) g (omega arith);
}
