-- The bytes of bits.
use Rattle.std.proofs.Common.{◌≡◌, ℕ, zero, suc, ◌+◌, ◌*◌, ◌^◌, ◌<◌, ◌≤◌, List, [], ◌∷◌, ◌++◌, length, take, drop}
use Rattle.std.proofs.Common.{map, get_or, ap, sym, ◌∙◌, refl, arith}
use Rattle.std.specs.List.{range_with_len}
use Rattle.std.proofs.lemmas.List.{get_or-take, get_or-drop, drop-drop, length-take, length-drop}
use Rattle.std.proofs.Math.Seq.{take-add}
use Rattle.std.proofs.Math.Nat.{pow-suc}
use Rattle.std.proofs.lemmas.List.FromFn.{fill_by_all}
use Rattle.bit_slice.specs.Bits.{number_of, number_onto, groups, completed_bit, completed_byte}
use Rattle.cell_nodes.specs.Layout.{byte_of, hash_from, depth_from}

inside : (bits : List ℕ) (j : ℕ) → j < length bits → get_or bits j 0 ≡ completed_bit bits j
inside bits j h = grind arith

-- bits by their places
window : (bits : List ℕ) (s n : ℕ) → s + n ≤ length bits
    → take n (drop s bits) ≡ map (λ k. completed_bit bits (s + k)) (range_with_len 0 n)
window bits s n h =
    fill_by_all (λ k. completed_bit bits (s + k)) (take n (drop s bits)) n 0
    (omega (arith, length-take n (drop s bits), length-drop s bits))
    (λ k below. get_or-take n (drop s bits) k 0 below ∙ get_or-drop s bits k 0 ∙ inside bits (s + k) (omega arith))

-- a byte that is there is a byte of the completed bits
pub byte_inside : (bits : List ℕ) (i : ℕ) → 8 * i + 8 ≤ length bits → completed_byte bits i ≡ byte_of i bits
byte_inside bits i h = ap number_of (sym (window bits (8 * i) 8 h))

byte_of-drop : (bits : List ℕ) (j k : ℕ) → byte_of k (drop (8 * j) bits) ≡ byte_of (j + k) bits
byte_of-drop bits j k =
    let e : 8 * j + 8 * k ≡ 8 * (j + k) = omega arith in
    ap (λ xs. number_of (take 8 xs)) (drop-drop (8 * k) (8 * j) bits ∙ ap (λ n. drop n bits) e)

shift : (a y p r : ℕ) → (2 * a + y) * p + r ≡ a * (p * 2) + ((2 * 0 + y) * p + r)
shift a y p r = omega arith

length-groups : (n : ℕ) (bits : List ℕ) → length (groups 8 n bits) ≡ n
unfolding groups
length-groups zero bits = refl
length-groups (suc n) bits = omega (arith, length-groups n (drop 8 bits))

groups-index : (n : ℕ) (bits : List ℕ) (k : ℕ) → k < n → get_or (groups 8 n bits) k 0 ≡ byte_of k bits
unfolding groups
groups-index zero bits k h = absurd (omega arith)
groups-index (suc n) bits zero h = refl
groups-index (suc n) bits (suc k) h =
    let e : 1 + k ≡ suc k = omega arith in
    groups-index n (drop 8 bits) k (omega arith) ∙ byte_of-drop bits 1 k ∙ ap (λ j. byte_of j bits) e

-- a hash, byte by byte, from byte `first` on
pub hash_bytes : (bits hash : List ℕ) (first : ℕ) → length hash ≡ 32
    → ((k : ℕ) → k < 32 → get_or hash k 0 ≡ byte_of (first + k) bits) → hash ≡ hash_from (8 * first) bits
hash_bytes bits hash first h all =
    fill_by_all (λ k. byte_of (first + k) bits) hash 32 0 h all
    ∙ sym (fill_by_all (λ k. byte_of (first + k) bits) (hash_from (8 * first) bits) 32 0
    (length-groups 32 (drop (8 * first) bits))
    (λ k below. groups-index 32 (drop (8 * first) bits) k below ∙ byte_of-drop bits first k))

number_onto-from : (a : ℕ) (ys : List ℕ) → number_onto a ys ≡ a * 2 ^ length ys + number_onto 0 ys
unfolding number_onto
number_onto-from a [] = omega arith
number_onto-from a (y ∷ ys) =
    let e : 2 ^ suc (length ys) ≡ 2 ^ length ys * 2 = pow-suc 2 (length ys) in
    number_onto-from (2 * a + y) ys ∙ rw (e, number_onto-from (2 * 0 + y) ys) (shift a y (2 ^ length ys) (number_onto 0 ys))

number_onto-append : (a : ℕ) (xs ys : List ℕ) → number_onto a (xs ++ ys) ≡ number_onto (number_onto a xs) ys
unfolding number_onto
number_onto-append a [] ys = refl
number_onto-append a (x ∷ xs) ys = number_onto-append (2 * a + x) xs ys

-- two bytes, the high one first
two_bytes : (bits : List ℕ) → 16 ≤ length bits
    → number_of (take 16 bits) ≡ number_of (take 8 bits) * 256 + number_of (take 8 (drop 8 bits))
two_bytes bits h =
    let e : length (take 8 (drop 8 bits)) ≡ 8 = omega (arith, length-take 8 (drop 8 bits), length-drop 8 bits) in
    ap number_of (take-add 8 8 bits)
    ∙ number_onto-append 0 (take 8 bits) (take 8 (drop 8 bits))
    ∙ number_onto-from (number_of (take 8 bits)) (take 8 (drop 8 bits))
    ∙ ap (λ n. number_of (take 8 bits) * 2 ^ n + number_of (take 8 (drop 8 bits))) e

-- a depth, by its two bytes, from byte `first` on
pub depth_bytes : (bits : List ℕ) (first : ℕ) → 8 * first + 16 ≤ length bits
    → byte_of first bits * 256 + byte_of (first + 1) bits ≡ depth_from (8 * first) bits
depth_bytes bits first h =
    let z : first + 0 ≡ first = omega arith in
    ap (λ n. byte_of first bits * 256 + n) (sym (byte_of-drop bits first 1))
    ∙ ap (λ n. n * 256 + number_of (take 8 (drop 8 (drop (8 * first) bits))))
    (sym (ap (λ n. byte_of n bits) z) ∙ sym (byte_of-drop bits first 0))
    ∙ sym (two_bytes (drop (8 * first) bits) (omega (arith, length-drop (8 * first) bits)))
