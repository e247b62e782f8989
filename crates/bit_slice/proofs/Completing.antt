-- Bytes of completed bits, a bit at a time.
use Rattle.std.proofs.Common.{◌≡◌, ℕ, zero, suc, ◌+◌, ◌-◌, ◌*◌, ◌%◌, ◌^◌, ◌<◌, ◌≤◌, List, map, refl, sym, [], ◌∙◌, ap, arith, subst, Fits, w8}
use Rattle.std.specs.List.{range_with_len}
use Rattle.std.proofs.lemmas.List.FromFn.{map-range_with_len_more}
use Rattle.std.proofs.lemmas.Nat.{pow-add}
use Rattle.std.proofs.lemmas.Bool.Decides.{nat_tests}
use Rattle.std.proofs.Math.Nat.{pow-suc, mul_assoc, mul-le-mul_right, suc-mul}
use Rattle.std.proofs.Math.Pow.{pow_mono}
use Rattle.bit_slice.specs.Bits.{bits_from, bit_of, number_of, number_onto, completed_bit, completed_byte}
use Rattle.bit_slice.specs.BitLists.{number_onto-more, number_of-more, number_of-lt, length-bits_from, index-bits_from, number_of-none}

pub number_of-nil : number_of [] ≡ 0
unfolding number_onto
number_of-nil = refl

pub number_of-more-by : (f : ℕ → ℕ) (i : ℕ) → number_of (map f (range_with_len 0 (i + 1))) ≡ 2 * number_of (map f (range_with_len 0 i)) + f i
number_of-more-by f i = rw (map-range_with_len_more f 0 i i (omega arith)) (number_onto-more 0 (f i) (map f (range_with_len 0 i)))

bit-inside : (bytes : List ℕ) (s n j : ℕ) → j < n → completed_bit (bits_from bytes s n) j ≡ bit_of bytes (s + j)
bit-inside bytes s n j h = let l = length-bits_from bytes s n in let e = index-bits_from bytes s n j h in grind (arith, nat_tests)

bit-first : (bytes : List ℕ) (s n : ℕ) → completed_bit (bits_from bytes s n) n ≡ 1
bit-first bytes s n = let l = length-bits_from bytes s n in grind (arith, nat_tests)

bit-after : (bytes : List ℕ) (s n j : ℕ) → n < j → completed_bit (bits_from bytes s n) j ≡ 0
bit-after bytes s n j h = let l = length-bits_from bytes s n in grind (arith, nat_tests)

front-more : (bytes : List ℕ) (s n k m : ℕ) → 8 * k + m < n
    → number_of (map (λ i. completed_bit (bits_from bytes s n) (8 * k + i)) (range_with_len 0 m)) ≡ number_of (bits_from bytes (s + 8 * k) m)
    → number_of (map (λ i. completed_bit (bits_from bytes s n) (8 * k + i)) (range_with_len 0 (m + 1))) ≡ number_of (bits_from bytes (s + 8 * k) (m + 1))
front-more bytes s n k m h r =
    let a : s + (8 * k + m) ≡ s + 8 * k + m = omega arith in
    let b = bit-inside bytes s n (8 * k + m) h in
    rw (number_of-more-by (λ i. completed_bit (bits_from bytes s n) (8 * k + i)) m, r, b, number_of-more bytes (s + 8 * k) m, a) refl

-- where m of the bits are left from bit 8 * k on
front-number : (bytes : List ℕ) (s n k m : ℕ) → 8 * k + m ≤ n
    → number_of (map (λ i. completed_bit (bits_from bytes s n) (8 * k + i)) (range_with_len 0 m)) ≡ number_of (bits_from bytes (s + 8 * k) m)
front-number bytes s n k zero h = number_of-nil ∙ sym (number_of-none bytes (s + 8 * k))
front-number bytes s n k (suc m) h =
    let e : m + 1 ≡ suc m = omega arith in
    let P : ℕ → Type 0 = λ x. number_of (map (λ i. completed_bit (bits_from bytes s n) (8 * k + i)) (range_with_len 0 x)) ≡ number_of (bits_from bytes (s + 8 * k) x) in
    subst P e (front-more bytes s n k m (omega arith) (front-number bytes s n k m (omega arith)))

pub completed_byte-whole : (bytes : List ℕ) (s n k : ℕ) → 8 * k + 8 ≤ n
    → completed_byte (bits_from bytes s n) k ≡ number_of (bits_from bytes (s + 8 * k) 8)
completed_byte-whole bytes s n k h = front-number bytes s n k 8 h

twice : (x p : ℕ) → 2 * (x * p) + 0 ≡ x * (p * 2)
twice x p = let m : x * p * 2 ≡ x * (p * 2) = mul_assoc x p 2 in omega arith

-- z zeros after the 1 bit
tail-number : (bytes : List ℕ) (s k r z : ℕ)
    → number_of (map (λ i. completed_bit (bits_from bytes s (8 * k + r)) (8 * k + i)) (range_with_len 0 (r + 1 + z)))
    ≡ (2 * number_of (bits_from bytes (s + 8 * k) r) + 1) * 2 ^ z
tail-number bytes s k r zero =
    let e : r + 1 + 0 ≡ r + 1 = omega arith in
    let p : 2 ^ 0 ≡ 1 = refl in
    let f = front-number bytes s (8 * k + r) k r (omega arith) in
    let b = bit-first bytes s (8 * k + r) in
    rw (e, number_of-more-by (λ i. completed_bit (bits_from bytes s (8 * k + r)) (8 * k + i)) r, f, b) (omega arith)
tail-number bytes s k r (suc z) =
    let e : r + 1 + suc z ≡ (r + 1 + z) + 1 = omega arith in
    let p : 2 ^ suc z ≡ 2 ^ z * 2 = pow-suc 2 z in
    let t = tail-number bytes s k r z in
    let b = bit-after bytes s (8 * k + r) (8 * k + (r + 1 + z)) (omega arith) in
    rw (e, number_of-more-by (λ i. completed_bit (bits_from bytes s (8 * k + r)) (8 * k + i)) (r + 1 + z), t, b, p) (twice (2 * number_of (bits_from bytes (s + 8 * k) r) + 1) (2 ^ z))

pub completed_byte-tail : (bytes : List ℕ) (s n k : ℕ) → 8 * k ≤ n → n - 8 * k < 8
    → (2 * number_of (bits_from bytes (s + 8 * k) (n - 8 * k)) + 1) * 2 ^ (7 - (n - 8 * k)) ≡ completed_byte (bits_from bytes s n) k
completed_byte-tail bytes s n k h l =
    let r : ℕ = n - 8 * k in
    let e : 8 * k + (n - 8 * k) ≡ n = omega arith in
    let f : n - 8 * k + 1 + (7 - (n - 8 * k)) ≡ 8 = omega arith in
    let P : ℕ → Type 0 = λ m. (2 * number_of (bits_from bytes (s + 8 * k) (n - 8 * k)) + 1) * 2 ^ (7 - (n - 8 * k)) ≡ number_of (map (λ i. completed_bit (bits_from bytes s m) (8 * k + i)) (range_with_len 0 8)) in
    let Q : ℕ → Type 0 = λ m. (2 * number_of (bits_from bytes (s + 8 * k) (n - 8 * k)) + 1) * 2 ^ (7 - (n - 8 * k)) ≡ number_of (map (λ i. completed_bit (bits_from bytes s (8 * k + (n - 8 * k))) (8 * k + i)) (range_with_len 0 m)) in
    subst P e (subst Q f (sym (tail-number bytes s k (n - 8 * k) (7 - (n - 8 * k)))))

-- the byte of fewer than eight bits
pub tail-lt : (n r : ℕ) → r < 8 → n < 2 ^ r → (2 * n + 1) * 2 ^ (7 - r) < 2 ^ 8
tail-lt n r h l =
    let s : r + 1 ≡ suc r = omega arith in
    let p : 2 ^ (r + 1) ≡ 2 ^ r * 2 = rw s (pow-suc 2 r) in
    let e : r + 1 + (7 - r) ≡ 8 = omega arith in
    let q : 2 ^ (r + 1) * 2 ^ (7 - r) ≡ 2 ^ 8 = sym (pow-add 2 (r + 1) (7 - r)) ∙ ap (λ (x : ℕ). 2 ^ x) e in
    let m : suc (2 * n + 1) * 2 ^ (7 - r) ≤ 2 ^ (r + 1) * 2 ^ (7 - r) = mul-le-mul_right (2 ^ (7 - r)) (omega arith) in
    let t : suc (2 * n + 1) * 2 ^ (7 - r) ≡ (2 * n + 1) * 2 ^ (7 - r) + 2 ^ (7 - r) = suc-mul (2 * n + 1) (2 ^ (7 - r)) in
    let o : 1 ≤ 2 ^ (7 - r) = pow_mono {i = 0} {j = 7 - r} (omega arith) in
    omega arith

pub small-mod : (x : ℕ) → x < 2 ^ 8 → x % 2 ^ 128 ≡ x
small-mod x h = omega arith

pub fits-small : (x : ℕ) → x < 2 ^ 8 → Fits w8 (x % 2 ^ 128)
fits-small x h = omega arith

pub below : (v : ℕ) (bytes : List ℕ) (i n : ℕ) → v ≡ number_of (bits_from bytes i n) → v < 2 ^ n
below v bytes i n e = rw e (number_of-lt bytes i n)

pub below_7 : (v : ℕ) (bytes : List ℕ) (i n : ℕ) → v ≡ number_of (bits_from bytes i n) → n < 8 → v < 2 ^ 7
below_7 v bytes i n e h =
    let l : v < 2 ^ n = below v bytes i n e in
    let p : 2 ^ n ≤ 2 ^ 7 = pow_mono {i = n} {j = 7} (omega arith) in
    omega arith

pub ruleset completing = (completed_byte-whole, number_of-more-by)
