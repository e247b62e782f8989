-- The last byte of completed bits.
use Rattle.std.proofs.Common.{◌≡◌, ◌≢◌, ◌∙◌, ℕ, zero, suc, ◌+◌, ◌-◌, ◌*◌, ◌/◌, ◌%◌, ◌^◌, ◌<◌, List, length, map, refl, ap, subst, ⊎_elim, arith}
use Rattle.std.specs.List.{range_with_len}
use Rattle.std.specs.Int.{bit_at, trailing_zeros, w8}
use Rattle.std.proofs.lemmas.Bool.{cases_order}
use Rattle.std.proofs.lemmas.Nat.Bits.{bit_at-trailing_zeros}
use Rattle.std.proofs.lemmas.List.FromFn.{length-map-range_with_len}
use Rattle.bit_slice.specs.Bits.{AreBits, number_of, completed_bit, completed_byte}
use Rattle.bit_slice.specs.BitLists.{number_of-bound}
use Rattle.bit_slice.specs.Completion.{AreBits-map-range, completed_bit-lt, completed_bit-end, completed_bit-after, bit_at-completed_byte}

completed_byte-lt : (bits : List ℕ) (k : ℕ) → AreBits bits → completed_byte bits k < 2 ^ 8
completed_byte-lt bits k h =
    let f : ℕ → ℕ = λ i. completed_bit bits (8 * k + i) in
    let e : length (map f (range_with_len 0 8)) ≡ 8 = length-map-range_with_len f 0 8 in
    ap_bound (number_of (map f (range_with_len 0 8))) (length (map f (range_with_len 0 8))) e
    (number_of-bound (map f (range_with_len 0 8)) (AreBits-map-range f 0 8 (λ j. completed_bit-lt bits (8 * k + j) h)))
  where
    ap_bound : (v n : ℕ) → n ≡ 8 → v < 2 ^ n → v < 2 ^ 8
    ap_bound v n e h = subst (λ (m : ℕ). v < 2 ^ m) e h

-- the bit that completes the bits, and those after it
one_at : (bits : List ℕ) (k : ℕ) → AreBits bits → k < 8 → 8 * (length bits / 8) + k ≡ length bits → bit_at (completed_byte bits (length bits / 8)) (7 - k) ≡ 1
one_at bits k h l e =
    bit_at-completed_byte bits (length bits / 8) k h l ∙ ap (λ (j : ℕ). completed_bit bits j) e ∙ completed_bit-end bits

none_at : (bits : List ℕ) (k : ℕ) → AreBits bits → k < 8 → length bits < 8 * (length bits / 8) + k → bit_at (completed_byte bits (length bits / 8)) (7 - k) ≡ 0
none_at bits k h l e = bit_at-completed_byte bits (length bits / 8) k h l ∙ completed_bit-after bits (8 * (length bits / 8) + k) e

odd_low : (x j : ℕ) → j < 7 → bit_at x j ≡ 1 → x % 128 ≡ 0 → ⊥
odd_low x zero l h k = omega arith
odd_low x (suc zero) l h k = omega arith
odd_low x (suc (suc zero)) l h k = omega arith
odd_low x (suc (suc (suc zero))) l h k = omega arith
odd_low x (suc (suc (suc (suc zero)))) l h k = omega arith
odd_low x (suc (suc (suc (suc (suc zero))))) l h k = omega arith
odd_low x (suc (suc (suc (suc (suc (suc zero)))))) l h k = omega arith
odd_low x (suc (suc (suc (suc (suc (suc (suc j))))))) l h k = absurd (omega arith)

-- where the bits fill no whole bytes a 1 stands among the low seven bits of the last byte
pub last-used : (bits : List ℕ) → AreBits bits → length bits % 8 ≢ 0 → completed_byte bits (length bits / 8) % 128 ≢ 0
last-used bits h part e =
    odd_low (completed_byte bits (length bits / 8)) (7 - length bits % 8) (omega arith) (one_at bits (length bits % 8) h (omega arith) (omega arith)) e

-- and its lowest 1 completes the bits
pub lowest-one : (bits : List ℕ) → AreBits bits → length bits % 8 ≢ 0 → trailing_zeros w8 (completed_byte bits (length bits / 8)) ≡ 7 - length bits % 8
lowest-one bits h part =
    let x = completed_byte bits (length bits / 8) in
    let r = length bits % 8 in
    let one : bit_at x (7 - r) ≡ 1 = one_at bits r h (omega arith) (omega arith) in
    let some : 0 < x = positive x (last-used bits h part) in
    let found = bit_at-trailing_zeros w8 x some (completed_byte-lt bits (length bits / 8) h) in
    lowest x (trailing_zeros w8 x) r found.0 found.1 found.2 one (λ k l m. none_at bits k h l (omega arith))
  where
    positive : (x : ℕ) → x % 128 ≢ 0 → 0 < x
    positive zero h = absurd (h refl)
    positive (suc x) h = omega arith

    by_place : (x p q : ℕ) → p ≡ q → bit_at x p ≡ bit_at x q
    by_place x p q e = ap (λ (j : ℕ). bit_at x j) e

    lowest : (x z r : ℕ) → z < 8 → bit_at x z ≡ 1 → ((i : ℕ) → i < z → bit_at x i ≡ 0) → bit_at x (7 - r) ≡ 1
        → ((k : ℕ) → k < 8 → r < k → bit_at x (7 - k) ≡ 0) → z ≡ 7 - r
    lowest x z r l at low one none = ⊎_elim
        (λ (e : z ≡ 7 - r). e)
        (λ s. ⊎_elim
        (λ (m : z < 7 - r).
        let zero_at : bit_at x (7 - (7 - z)) ≡ 0 = none (7 - z) (omega arith) (omega arith) in
        let same : bit_at x z ≡ bit_at x (7 - (7 - z)) = by_place x z (7 - (7 - z)) (omega arith) in
        absurd (omega arith))
        (λ (m : 7 - r < z). let zero_at : bit_at x (7 - r) ≡ 0 = low (7 - r) m in absurd (omega arith))
        s)
        (cases_order z (7 - r))
