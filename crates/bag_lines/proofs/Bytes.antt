-- The bag that is written for a good tree that is not too large is some forty million bytes at most.
use Rattle.std.proofs.Common.{◌≡◌, ℕ, zero, suc, ◌+◌, ◌-◌, ◌*◌, ◌/◌, ◌%◌, ◌^◌, ◌<◌, ◌≤◌, Bool, true, false, List, [], ◌∷◌, ◌++◌, length, map, get_or, reverse, subst, sym, ap, arith}
use Rattle.std.specs.Prelude.{Some, slice_get, refl}
use Rattle.std.specs.List.{All, flat_map, range_with_len}
use Rattle.std.proofs.lemmas.List.{length-append, length-map, length-reverse, get_or-reverse}
use Rattle.std.proofs.lemmas.List.Elements.{All-head, All-tail}
use Rattle.std.proofs.lemmas.List.FromFn.{length-map-range_with_len}
use Rattle.bit_slice.specs.Bits.{AreBits, bit_number, completed, completed_bit, completed_byte}
use Rattle.bit_slice.specs.BitLists.{number_of-bound}
use Rattle.bit_slice.specs.Completion.{AreBits-map-range, completed-by_index, completed_bit-lt, length-completed}
use Rattle.cell_nodes.specs.declared.tree.Tree.{Tree, out-Tree}
use Rattle.cell_nodes.specs.Good.{IsGood}
use Rattle.cell_nodes.specs.GoodParts.{good-sound}
use Rattle.cell_nodes.specs.Tree.{is_exotic, mask, unfolded}
use Rattle.cell_pool.specs.GrowthLaws.{length-post}
use Rattle.cell_pool.specs.OnceLaws.{post-good}
use Rattle.cell_pool.specs.Post.{place, post}
use Rattle.bag_cells.specs.Numbers.{AreBytes}
use Rattle.bag_cells.specs.Written.{bag_of, bag_over, cell_bytes, cell_data, descriptor_of, header_bytes, number_bytes, ref_bytes, width_of}
use Rattle.bag_lines.specs.Laws.{WidthIsLeast}
use Rattle.bag_lines.proofs.Masks.{mask-low}

abbrev pub AllBytes : List ℕ → Type 0
AllBytes [] = Unit {0}
AllBytes (b ∷ bs) = (b < 256) × AllBytes bs

-- at most so many bytes
pub record Within (most : ℕ) (bytes : List ℕ) : Type 0 where
  pub are_bytes : AllBytes bytes
  pub short : length bytes ≤ most

pub bytes-at : (bs : List ℕ) → AllBytes bs → AreBytes bs
bytes-at [] h i = omega arith
bytes-at (b ∷ bs) h zero = h.0
bytes-at (b ∷ bs) h (suc i) = bytes-at bs h.1 i

-- ---- lists one after the other

bytes-append : (xs ys : List ℕ) → AllBytes xs → AllBytes ys → AllBytes (xs ++ ys)
bytes-append [] ys h k = k
bytes-append (x ∷ xs) ys h k = (h.0, bytes-append xs ys h.1 k)

within-both : (m n : ℕ) (xs ys : List ℕ) → Within m xs → Within n ys → Within (m + n) (xs ++ ys)
within-both m n xs ys h k = record {
  are_bytes = bytes-append xs ys h.are_bytes k.are_bytes;
  short = omega (arith, length-append xs ys, h.short, k.short);
}

within-most : (m n : ℕ) (xs : List ℕ) → m ≤ n → Within m xs → Within n xs
within-most m n xs l h = record { are_bytes = h.are_bytes; short = omega (arith, h.short) }

within-none : (n : ℕ) → Within n []
within-none n = record { are_bytes = tt; short = omega arith }

-- ---- numbers

number-bytes : (w n : ℕ) → Within w (number_bytes w n)
unfolding number_bytes
number-bytes zero n = within-none 0
number-bytes (suc w) n =
    let last : Within 1 (n % 256 ∷ []) = record { are_bytes = (omega arith, tt); short = omega arith } in
    within-most (w + 1) (suc w) _ (omega arith)
    (within-both w 1 (number_bytes w (n / 256)) (n % 256 ∷ []) (number-bytes w (n / 256)) last)

numbers-bytes : (w : ℕ) (ns : List ℕ) → w ≤ 3 → Within (length ns * 3) (flat_map (number_bytes w) ns)
numbers-bytes w [] h = within-none 0
numbers-bytes w (n ∷ ns) h =
    within-most (3 + length ns * 3) (suc (length ns) * 3) _ (omega arith)
    (within-both 3 (length ns * 3) (number_bytes w n) (flat_map (number_bytes w) ns)
    (within-most w 3 _ h (number-bytes w n)) (numbers-bytes w ns h))

-- ---- the bits of a cell

completed-byte : (bits : List ℕ) (k : ℕ) → AreBits bits → completed_byte bits k < 256
completed-byte bits k h =
    let f : ℕ → ℕ = λ i. completed_bit bits (8 * k + i) in
    let are : AreBits (map f (range_with_len 0 8)) = AreBits-map-range f 0 8 (λ j. completed_bit-lt bits (8 * k + j) h) in
    let bound = number_of-bound (map f (range_with_len 0 8)) are in
    let len = length-map-range_with_len f 0 8 in
    let same : 2 ^ length (map f (range_with_len 0 8)) ≡ 256 = ap (λ n. 2 ^ n) len in
    omega (arith, bound, same)

mapped-bytes : (f : ℕ → ℕ) (a n : ℕ) → ((k : ℕ) → f k < 256) → AllBytes (map f (range_with_len a n))
mapped-bytes f a zero h = tt
mapped-bytes f a (suc n) h = (h a, mapped-bytes f (a + 1) n h)

completed-bytes : (bits : List ℕ) → AreBits bits → length bits ≤ 1023 → Within 128 (completed bits)
completed-bytes bits h short = record {
  are_bytes =
      let P : List ℕ → Type 0 = AllBytes in
      subst P (sym (completed-by_index bits))
      (mapped-bytes (completed_byte bits) 0 ((length bits + 7) / 8) (λ k. completed-byte bits k h));
  short = omega (arith, length-completed bits);
}

-- ---- a cell

first-byte : (r m : ℕ) (b : Bool) → r ≤ 4 → m ≤ 7 → r + 8 * bit_number b + 32 * m < 256
first-byte r m true h k = omega arith
first-byte r m false h k = omega arith

cell-bytes : (w : ℕ) (order : List Tree) (u : Tree) → w ≤ 3 → IsGood u → Within 142 (cell_bytes w order u)
unfolding cell_bytes
cell-bytes w order u h g =
    let sound = good-sound u g in
    let cs = (out-Tree u).children in
    let bits = (out-Tree u).bits in
    let short : length bits ≤ 1023 = sound.short in
    let few : length cs ≤ 4 = sound.few in
    let places = map (place order) cs in
    let count : length places ≡ length cs = length-map cs (place order) in
    let head : Within 2 ((descriptor_of u).0 ∷ (descriptor_of u).1 ∷ []) = record {
      are_bytes = (first-byte (length cs) (mask u) (is_exotic (out-Tree u).kind) few (mask-low u g), (omega arith, tt));
      short = omega arith;
    } in
    let refs = within-most (length places * 3) 12 (ref_bytes w order cs) (omega arith) (numbers-bytes w places h) in
    within-both 2 140 _ _ head
    (within-both 128 12 (completed bits) (ref_bytes w order cs) (completed-bytes bits sound.bits short) refs)

cells-bytes : (w : ℕ) (order ts : List Tree) → w ≤ 3 → All IsGood ts
    → Within (length ts * 142) (flat_map (cell_bytes w order) ts)
cells-bytes w order [] h g = within-none 0
cells-bytes w order (t ∷ ts) h g =
    within-most (142 + length ts * 142) (suc (length ts) * 142) _ (omega arith)
    (within-both 142 (length ts * 142) (cell_bytes w order t) (flat_map (cell_bytes w order) ts)
    (cell-bytes w order t h (All-head IsGood t ts g)) (cells-bytes w order ts h (All-tail IsGood t ts g)))

-- ---- the whole bag

get_or-at : (ts : List Tree) (i : ℕ) (d : Tree) → i < length ts → slice_get ts i ≡ Some (get_or ts i d)
get_or-at [] i d h = absurd (omega arith)
get_or-at (u ∷ us) zero d h = refl
get_or-at (u ∷ us) (suc i) d h = get_or-at us i d (omega arith)

order-good : (t : Tree) → IsGood t → All IsGood (reverse (post t))
order-good t g i d h =
    let ts = post t in
    let inside : i < length ts = omega (arith, length-reverse ts) in
    let k = length ts - 1 - i in
    let P : Tree → Type 0 = IsGood in
    subst P (sym (get_or-reverse ts i d inside)) (post-good t (get_or ts k d) k g (get_or-at ts k d (omega arith)))

header-bytes : (n m : ℕ) → width_of n ≤ 3 → width_of m ≤ 4 → Within 22 (header_bytes n m)
unfolding header_bytes
header-bytes n m h k =
    let w = width_of n in
    let head : Within 6 (0xb5 ∷ 0xee ∷ 0x9c ∷ 0x72 ∷ w ∷ width_of m ∷ []) = record {
      are_bytes = (omega arith, (omega arith, (omega arith, (omega arith, (omega arith, (omega arith, tt))))));
      short = omega arith;
    } in
    let one = λ (v : ℕ). within-most w 3 (number_bytes w v) h (number-bytes w v) in
    let size = within-most (width_of m) 4 (number_bytes (width_of m) m) k (number-bytes (width_of m) m) in
    within-both 19 3 _ _
    (within-both 15 4 _ _
    (within-both 12 3 _ _ (within-both 9 3 _ _ (within-both 6 3 _ _ head (one n)) (one 1)) (one 0)) size)
    (one 0)

pub bag-bytes : WidthIsLeast → (t : Tree) → IsGood t → unfolded t ≤ 262144 → Within 37224470 (bag_of t)
unfolding bag_over cell_data
bag-bytes least t g small =
    let order = reverse (post t) in
    let n = length order in
    let few : n ≤ 262144 = omega (arith, length-post t, length-reverse (post t)) in
    let w = width_of n in
    let narrow : w ≤ 3 = least n 3 (omega arith) (omega arith) in
    let content = flat_map (cell_bytes w order) order in
    let cells = within-most (n * 142) 37224448 content (omega arith) (cells-bytes w order order narrow (order-good t g)) in
    let wide : width_of (length content) ≤ 4 = least (length content) 4 (omega arith) (omega (arith, cells.short)) in
    within-both 22 37224448 (header_bytes n (length content)) content (header-bytes n (length content) narrow wide) cells
