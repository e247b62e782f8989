-- Numbers in the range of their width, and the one good cell that hides a hash and a depth.
use Rattle.std.proofs.Common.{◌≡◌, ◌<◌, ◌≤◌, ℕ, ◌+◌, ◌*◌, ◌^◌, true, List, [], ◌∷◌, Some, sym, ap, ◌∙◌, subst, arith, get_or}
use Rattle.std.specs.Prelude.{ℤ, pos, negsuc}
use Rattle.std.specs.List.{flat_map}
use Rattle.std.proofs.lemmas.Int.{ints}
use Rattle.std.proofs.lemmas.Bool.{lt-ltb, le-leb, ltb-true, leb-true}
use Rattle.bit_slice.specs.Bits.{AreBits, InSignedRange, spelled}
use Rattle.bit_slice.specs.BitLists.{AreBits-append, AreBits-spelled}
use Rattle.cell_hash.specs.declared.ChildMark.{ChildMark}
use Rattle.cell_nodes.specs.Constructed.{bits_of, hash_bits, depth_bits, pruned_bits, pruned_of}
use Rattle.cell_nodes.specs.ConstructedLaws.{one-pair, length-pruned, pruned-layout, pruned-shallow, depth-stored, depth-own}
use Rattle.cell_nodes.specs.Good.{IsGood, none}
use Rattle.cell_nodes.specs.GoodParts.{good-tree_of}
use Rattle.cell_nodes.specs.Levels.{set_bits}
use Rattle.cell_nodes.specs.LevelsLaws.{set_bits-zero}
use Rattle.cell_nodes.specs.Tree.{depth, deepest}
use Rattle.cell_nodes.specs.declared.tree.Hidden.{Hidden}
use Rattle.cell_nodes.specs.declared.tree.Kind.TheVariants.{Pruned}
use Rattle.cell_nodes.specs.declared.tree.Mode.TheVariants.{Partial}
use Rattle.cell_nodes.specs.declared.tree.Tree.{Tree}
use Rattle.hashmap_tree.specs.Dict.{unseen}
use Rattle.hashmap_tree.specs.Exceeds.{CanHide}
use Rattle.hashmap_tree.specs.ExceedsLaws.{hidden-shallow}
use Rattle.hashmap_tree.specs.HiddenLaws.{hidden_once}
use Rattle.hashmap_tree.specs.PrunedLaws.{hides-stored}
use Rattle.building.specs.Buildable.{IsHash}
use Rattle.building.specs.PlainBuilder.{is_in_range}

pub in_range_on : (width : ℕ) (z : ℤ) → InSignedRange width z → is_in_range width z ≡ true
in_range_on width (pos n) r = let u = r.1 in lt-ltb (2 * n) (2 ^ width) (omega (arith, ints))
in_range_on width (negsuc n) r = let l = r.0 in le-leb (2 * (n + 1)) (2 ^ width) (omega (arith, ints))

pub in_range_is : (width : ℕ) (z : ℤ) → is_in_range width z ≡ true → InSignedRange width z
in_range_is width (pos n) e =
    let l : 2 * n < 2 ^ width = ltb-true (2 * n) (2 ^ width) e in (omega (arith, ints), omega (arith, ints))
in_range_is width (negsuc n) e =
    let l : 2 * (n + 1) ≤ 2 ^ width = leb-true (2 * (n + 1)) (2 ^ width) e in (omega (arith, ints), omega (arith, ints))

-- ---- a pruned branch of one pair

bits-of : (bytes : List ℕ) → AreBits (bits_of bytes)
bits-of [] = tt
bits-of (b ∷ bytes) = AreBits-append (spelled 8 b) (bits_of bytes) (AreBits-spelled 8 b) (bits-of bytes)

hash-bits : (ps : List ChildMark) → AreBits (flat_map hash_bits ps)
hash-bits [] = tt
hash-bits (p ∷ ps) = AreBits-append (hash_bits p) (flat_map hash_bits ps) (bits-of p.hash) (hash-bits ps)

depth-bits : (ps : List ChildMark) → AreBits (flat_map depth_bits ps)
depth-bits [] = tt
depth-bits (p ∷ ps) = AreBits-append (depth_bits p) (flat_map depth_bits ps) (AreBits-spelled 16 p.depth) (depth-bits ps)

all-bits : (m : ℕ) (ps : List ChildMark) → AreBits (pruned_bits m ps)
all-bits m ps =
    AreBits-append (spelled 8 1) _ (AreBits-spelled 8 1)
    (AreBits-append (spelled 8 m) _ (AreBits-spelled 8 m)
    (AreBits-append (flat_map hash_bits ps) (flat_map depth_bits ps) (hash-bits ps) (depth-bits ps)))

pub pruned_good : (x : Hidden) → IsHash x → x.depth ≤ 1024 → IsGood (pruned_of x.hash x.depth)
pruned_good x h low =
    let ps : List ChildMark = record { depth = x.depth; hash = x.hash } ∷ [] in
    let c = one-pair x.hash x.depth h.whole low in
    good-tree_of Pruned (pruned_bits 1 ps) [] (all-bits 1 ps) (let l = length-pruned 1 ps c.pairs in omega (arith, l)) (omega arith)
    (pruned-layout 1 ps c) (pruned-shallow 1 ps c) none

pub can_hide : (x : Hidden) → IsHash x → x.depth ≤ 1024 → CanHide x
can_hide x h low = record { whole = h.whole; bytes = h.bytes; low = low }

pruned-depth : (x : Hidden) → IsHash x → x.depth ≤ 1024 → depth (pruned_of x.hash x.depth) 0 ≡ x.depth
pruned-depth x h low =
    let ps : List ChildMark = record { depth = x.depth; hash = x.hash } ∷ [] in
    let d : ChildMark = record { depth = 0; hash = [] } in
    let z : set_bits 0 1 ≡ 0 = set_bits-zero 1 in
    depth-stored 1 ps 0 d (one-pair x.hash x.depth h.whole low) (omega (arith, z)) ∙ ap (λ (i : ℕ). (get_or ps i d).depth) z

pub hidden-depth : (x : Hidden) → IsHash x → x.depth ≤ 1024 → x.depth ≤ deepest (pruned_of x.hash x.depth)
hidden-depth x h low = let e = pruned-depth x h low in omega (arith, e)

-- and no deeper
pub hidden-below : (x : Hidden) → IsHash x → x.depth ≤ 1023 → deepest (pruned_of x.hash x.depth) < 1024
unfolding set_bits
hidden-below x h low =
    let e = pruned-depth x h (omega (arith, low)) in
    let ps : List ChildMark = record { depth = x.depth; hash = x.hash } ∷ [] in
    let c = one-pair x.hash x.depth h.whole (omega (arith, low)) in
    let d1 = depth-own 1 ps 1 c (omega arith) in
    let d2 = depth-own 1 ps 2 c (omega arith) in
    let d3 = depth-own 1 ps 3 c (omega arith) in
    omega (arith, e, d1, d2, d3, low)

-- a good cell that hides a hash and a depth is the pruned branch of them, and as deep
pub hidden_is : (c : Tree) (x : Hidden) → IsHash x → IsGood c → unseen Partial c ≡ Some x
    → (c ≡ pruned_of x.hash x.depth) × (x.depth ≤ deepest c) × (x.depth ≤ 1024)
hidden_is c x h fine u =
    let low = hidden-shallow c x fine u in
    let same = hidden_once Partial c (pruned_of x.hash x.depth) x fine (pruned_good x h low) u (hides-stored x (can_hide x h low)) in
    let P : Tree → Type 0 = λ t. x.depth ≤ deepest t in
    (same, subst P (sym same) (hidden-depth x h low), low)
