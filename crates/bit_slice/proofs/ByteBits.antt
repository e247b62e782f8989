-- A byte by the eight bits that it stands for.
use Rattle.std.proofs.Common.{◌≡◌, ◌≢◌, ℕ, zero, suc, ◌+◌, ◌-◌, ◌*◌, ◌/◌, ◌%◌, ◌^◌, ◌<◌, ◌≤◌, List, ◌++◌, length, drop, refl, ap, sym, ◌∙◌, arith, slice_index, slice_set, subst, ⊎_elim}
use Rattle.std.specs.Int.{bit_at}
use Rattle.std.specs.Int.RustNames.{bit_or}
use Rattle.std.proofs.lemmas.Bool.{cases_lt, cases_eq}
use Rattle.std.proofs.lemmas.List.{take-append-drop, get_or-set_other, get_or-set_same, length-set}
use Rattle.std.proofs.lemmas.Nat.{shr-shr, shr_split, or_lt}
use Rattle.std.proofs.lemmas.Nat.Bits.{bit_at_or, bit_at_cat_low, bit_at_cat_high, bit_at_above, bit_at-zero}
use Rattle.std.proofs.Math.Nat.{div-le_self}
use Rattle.std.proofs.Math.Pow.{pow_mono}
use Rattle.bit_slice.specs.Bits.{bits_from, bit_of, number_of, spelled}
use Rattle.bit_slice.specs.BitLists.{number_of-spelled, take-bits_from, drop-bits_from, bits_from-same}

-- the bits of a number, by their places
pub spelled-places : (n v : ℕ) (bytes : List ℕ) (i : ℕ)
    → ((k j : ℕ) → j + k + 1 ≡ n → bit_at v j ≡ bit_of bytes (i + k)) → spelled n v ≡ bits_from bytes i n
unfolding spelled bits_from
spelled-places zero v bytes i h = refl
spelled-places (suc n) v bytes i h =
    let z : i + 0 ≡ i = omega arith in
    let head : bit_at v n ≡ bit_of bytes i = rw (← z) (h 0 n (omega arith)) in
    let rest : spelled n v ≡ bits_from bytes (i + 1) n =
    spelled-places n v bytes (i + 1)
    (λ k j e. let s : i + (k + 1) ≡ i + 1 + k = omega arith in rw (← s) (h (k + 1) j (omega arith))) in
    rw (head, rest) refl

-- a byte of eight bits is their number
pub byte-places : (v : ℕ) (bytes : List ℕ) (i : ℕ) → v < 2 ^ 8
    → ((k j : ℕ) → j + k + 1 ≡ 8 → bit_at v j ≡ bit_of bytes (i + k)) → v ≡ number_of (bits_from bytes i 8)
byte-places v bytes i h places = sym (number_of-spelled 8 v h) ∙ ap (λ (b : List ℕ). number_of b) (spelled-places 8 v bytes i places)

pub bit_at_mod : (n w j : ℕ) → j < w → bit_at (n % 2 ^ w) j ≡ bit_at n j
bit_at_mod n w j h =
    let P : ℕ → Type 0 = λ m. bit_at (n % 2 ^ w) j ≡ bit_at m j in
    subst P (shr_split n w) (sym (bit_at_cat_low (n / 2 ^ w) w (n % 2 ^ w) j h))

pub bit_at_shr : (n m j : ℕ) → bit_at (n / 2 ^ m) j ≡ bit_at n (m + j)
bit_at_shr n m j = ap (λ (x : ℕ). x % 2) (shr-shr n m j)

pub bit_at_shl_low : (n s j : ℕ) → j < s → bit_at (n * 2 ^ s) j ≡ 0
bit_at_shl_low n s j h =
    let z : n * 2 ^ s + 0 ≡ n * 2 ^ s = omega arith in
    let P : ℕ → Type 0 = λ m. bit_at m j ≡ 0 in
    subst P z (bit_at_cat_low n s 0 j h ∙ bit_at-zero j)

pub bit_at_shl_high : (n s j : ℕ) → s ≤ j → bit_at (n * 2 ^ s) j ≡ bit_at n (j - s)
bit_at_shl_high n s j h =
    let z : n * 2 ^ s + 0 ≡ n * 2 ^ s = omega arith in
    let p : 1 ≤ 2 ^ s = pow_mono {i = 0} {j = s} (omega arith) in
    let P : ℕ → Type 0 = λ m. bit_at m j ≡ bit_at n (j - s) in
    subst P z (bit_at_cat_high n s 0 j (omega arith) h)

-- where byte at / 8 is the whole of the eight bits
pub aligned : (bytes : List ℕ) (at k j : ℕ) → at % 8 ≡ 0 → j + k + 1 ≡ 8
    → bit_at (slice_index bytes (at / 8)) j ≡ bit_of bytes (at + k)
aligned bytes at k j h e =
    let p : (at + k) / 8 ≡ at / 8 = omega arith in
    let q : 7 - (at + k) % 8 ≡ j = omega arith in
    rw (p, q) refl

shifted_high : (a b s j : ℕ) → b < 2 ^ 8 → s < 8 → s ≤ j → j < 8
    → bit_at (bit_or (a * 2 ^ s % 2 ^ 8) (b / 2 ^ (8 - s))) j ≡ bit_at a (j - s)
shifted_high a b s j h l m n =
    let x : bit_at (a * 2 ^ s % 2 ^ 8) j ≡ bit_at a (j - s) = bit_at_mod (a * 2 ^ s) 8 j n ∙ bit_at_shl_high a s j m in
    let y : bit_at (b / 2 ^ (8 - s)) j ≡ 0 = bit_at_shr b (8 - s) j ∙ bit_at_above b 8 (8 - s + j) h (omega arith) in
    let o = bit_at_or (a * 2 ^ s % 2 ^ 8) (b / 2 ^ (8 - s)) j in
    o ∙ rw (x, y) (omega arith)

shifted_low : (a b s j : ℕ) → s < 8 → j < s → bit_at (bit_or (a * 2 ^ s % 2 ^ 8) (b / 2 ^ (8 - s))) j ≡ bit_at b (8 - s + j)
shifted_low a b s j l m =
    let x : bit_at (a * 2 ^ s % 2 ^ 8) j ≡ 0 = bit_at_mod (a * 2 ^ s) 8 j (omega arith) ∙ bit_at_shl_low a s j m in
    let y : bit_at (b / 2 ^ (8 - s)) j ≡ bit_at b (8 - s + j) = bit_at_shr b (8 - s) j in
    let o = bit_at_or (a * 2 ^ s % 2 ^ 8) (b / 2 ^ (8 - s)) j in
    o ∙ rw (x, y) (omega arith)

-- where the eight bits end in the next byte
pub shifted : (bytes : List ℕ) (at k j : ℕ) → slice_index bytes (at / 8 + 1) < 2 ^ 8 → j + k + 1 ≡ 8
    → bit_at (bit_or (slice_index bytes (at / 8) * 2 ^ (at % 8) % 2 ^ 8) (slice_index bytes (at / 8 + 1) / 2 ^ (8 - at % 8))) j
    ≡ bit_of bytes (at + k)
shifted bytes at k j h e = ⊎_elim
    (λ (m : j < at % 8).
    let p : (at + k) / 8 ≡ at / 8 + 1 = omega arith in
    let q : 7 - (at + k) % 8 ≡ 8 - at % 8 + j = omega arith in
    rw (p, q) (shifted_low (slice_index bytes (at / 8)) (slice_index bytes (at / 8 + 1)) (at % 8) j (omega arith) m))
    (λ (m : at % 8 ≤ j).
    let p : (at + k) / 8 ≡ at / 8 = omega arith in
    let q : 7 - (at + k) % 8 ≡ j - at % 8 = omega arith in
    rw (p, q) (shifted_high (slice_index bytes (at / 8)) (slice_index bytes (at / 8 + 1)) (at % 8) j h (omega arith) m (omega arith)))
    (cases_lt j (at % 8))

pub shifted-lt : (a b s : ℕ) → b < 2 ^ 8 → bit_or (a * 2 ^ s % 2 ^ 8) (b / 2 ^ (8 - s)) < 2 ^ 8
shifted-lt a b s h =
    let y : b / 2 ^ (8 - s) ≤ b = div-le_self b (2 ^ (8 - s)) in
    or_lt 8 (a * 2 ^ s % 2 ^ 8) (b / 2 ^ (8 - s)) (omega arith) (omega arith)

-- ---- a byte over eight bits

joined_high : (a b s j : ℕ) → b < 2 ^ 8 → s < 8 → 8 - s ≤ j → j < 8
    → bit_at (bit_or (a / 2 ^ (8 - s) * 2 ^ (8 - s) % 2 ^ 8) (b / 2 ^ s)) j ≡ bit_at a j
joined_high a b s j h l m n =
    let e : 8 - s + (j - (8 - s)) ≡ j = omega arith in
    let x : bit_at (a / 2 ^ (8 - s) * 2 ^ (8 - s) % 2 ^ 8) j ≡ bit_at a j =
    bit_at_mod (a / 2 ^ (8 - s) * 2 ^ (8 - s)) 8 j n ∙ bit_at_shl_high (a / 2 ^ (8 - s)) (8 - s) j m
    ∙ bit_at_shr a (8 - s) (j - (8 - s)) ∙ ap (λ (k : ℕ). bit_at a k) e in
    let y : bit_at (b / 2 ^ s) j ≡ 0 = bit_at_shr b s j ∙ bit_at_above b 8 (s + j) h (omega arith) in
    let o = bit_at_or (a / 2 ^ (8 - s) * 2 ^ (8 - s) % 2 ^ 8) (b / 2 ^ s) j in
    o ∙ rw (x, y) (omega arith)

joined_low : (a b s j : ℕ) → s < 8 → j < 8 - s
    → bit_at (bit_or (a / 2 ^ (8 - s) * 2 ^ (8 - s) % 2 ^ 8) (b / 2 ^ s)) j ≡ bit_at b (s + j)
joined_low a b s j l m =
    let x : bit_at (a / 2 ^ (8 - s) * 2 ^ (8 - s) % 2 ^ 8) j ≡ 0 =
    bit_at_mod (a / 2 ^ (8 - s) * 2 ^ (8 - s)) 8 j (omega arith) ∙ bit_at_shl_low (a / 2 ^ (8 - s)) (8 - s) j m in
    let y : bit_at (b / 2 ^ s) j ≡ bit_at b (s + j) = bit_at_shr b s j in
    let o = bit_at_or (a / 2 ^ (8 - s) * 2 ^ (8 - s) % 2 ^ 8) (b / 2 ^ s) j in
    o ∙ rw (x, y) (omega arith)

bits_from-append : (b : List ℕ) (i n m : ℕ) → bits_from b i (n + m) ≡ bits_from b i n ++ bits_from b (i + n) m
bits_from-append b i n m =
    sym (take-append-drop n (bits_from b i (n + m)))
    ∙ ap (λ (l : List ℕ). l ++ drop n (bits_from b i (n + m))) (take-bits_from b i (n + m) n (omega arith))
    ∙ ap (λ (l : List ℕ). bits_from b i n ++ l) (drop-bits_from b i (n + m) n (omega arith))
    ∙ ap (λ (k : ℕ). bits_from b i n ++ bits_from b (i + n) k) (omega arith)

-- eight bits are written, and those before them stay
written : (b c : List ℕ) (at v : ℕ) → ((k : ℕ) → k < at → bit_of c k ≡ bit_of b k)
    → ((k j : ℕ) → j + k + 1 ≡ 8 → bit_at v j ≡ bit_of c (at + k)) → bits_from c 0 (at + 8) ≡ bits_from b 0 at ++ spelled 8 v
written b c at v before places =
    let z : 0 + at ≡ at = omega arith in
    let front : bits_from c 0 at ≡ bits_from b 0 at = bits_from-same c b 0 at (λ k l. before k (omega arith)) in
    let rest : bits_from c (0 + at) 8 ≡ spelled 8 v = ap (λ (i : ℕ). bits_from c i 8) z ∙ sym (spelled-places 8 v c at places) in
    bits_from-append c 0 at 8 ∙ rw (front, rest) refl

pub put-aligned : (b : List ℕ) (at v : ℕ) → at + 8 ≤ 8 * length b → at % 8 ≡ 0
    → bits_from (slice_set b (at / 8) v) 0 (at + 8) ≡ bits_from b 0 at ++ spelled 8 v
put-aligned b at v h e =
    written b (slice_set b (at / 8) v) at v
    (λ k l. ap (λ (x : ℕ). bit_at x (7 - k % 8)) (get_or-set_other b (at / 8) (k / 8) v 0 (λ q. absurd (omega arith))))
    (λ k j s.
    let p : (at + k) / 8 ≡ at / 8 = omega arith in
    let q : 7 - (at + k) % 8 ≡ j = omega arith in
    let f : slice_index (slice_set b (at / 8) v) (at / 8) ≡ v = get_or-set_same b (at / 8) v 0 (omega arith) in
    rw (p, q, f) refl)

put-before : (b : List ℕ) (at v k : ℕ) (w : ℕ) → v < 2 ^ 8 → at + 8 ≤ 8 * length b → at % 8 ≢ 0 → k < at
    → bit_of (slice_set (slice_set b (at / 8) (bit_or (slice_index b (at / 8) / 2 ^ (8 - at % 8) * 2 ^ (8 - at % 8) % 2 ^ 8) (v / 2 ^ (at % 8)))) (at / 8 + 1) w) k ≡ bit_of b k
put-before b at v k w g h e l =
    let u : ℕ = bit_or (slice_index b (at / 8) / 2 ^ (8 - at % 8) * 2 ^ (8 - at % 8) % 2 ^ 8) (v / 2 ^ (at % 8)) in
    let far : slice_index (slice_set (slice_set b (at / 8) u) (at / 8 + 1) w) (k / 8) ≡ slice_index (slice_set b (at / 8) u) (k / 8) =
    get_or-set_other (slice_set b (at / 8) u) (at / 8 + 1) (k / 8) w 0 (λ q. absurd (omega arith)) in
    ap (λ (x : ℕ). bit_at x (7 - k % 8)) far ∙ ⊎_elim
    (λ (m : k / 8 ≡ at / 8).
    let f : slice_index (slice_set b (at / 8) u) (at / 8) ≡ u = get_or-set_same b (at / 8) u 0 (omega arith) in
    ap (λ (i : ℕ). bit_at (slice_index (slice_set b (at / 8) u) i) (7 - k % 8)) m ∙ ap (λ (x : ℕ). bit_at x (7 - k % 8)) f
    ∙ joined_high (slice_index b (at / 8)) v (at % 8) (7 - k % 8) g (omega arith) (omega arith) (omega arith)
    ∙ ap (λ (i : ℕ). bit_at (slice_index b i) (7 - k % 8)) (sym m))
    (λ (m : k / 8 ≢ at / 8). ap (λ (x : ℕ). bit_at x (7 - k % 8)) (get_or-set_other b (at / 8) (k / 8) u 0 m))
    (cases_eq (k / 8) (at / 8))

put-places : (b : List ℕ) (at v k j : ℕ) → at + 8 ≤ 8 * length b → at % 8 ≢ 0 → j + k + 1 ≡ 8
    → bit_at v j ≡ bit_of (slice_set (slice_set b (at / 8) (bit_or (slice_index b (at / 8) / 2 ^ (8 - at % 8) * 2 ^ (8 - at % 8) % 2 ^ 8) (v / 2 ^ (at % 8)))) (at / 8 + 1) (v * 2 ^ (8 - at % 8) % 2 ^ 8)) (at + k)
put-places b at v k j h e s =
    let u : ℕ = bit_or (slice_index b (at / 8) / 2 ^ (8 - at % 8) * 2 ^ (8 - at % 8) % 2 ^ 8) (v / 2 ^ (at % 8)) in
    let w : ℕ = v * 2 ^ (8 - at % 8) % 2 ^ 8 in
    let n : length (slice_set b (at / 8) u) ≡ length b = length-set b (at / 8) u in
    ⊎_elim
    (λ (m : at % 8 + k < 8).
    let p : (at + k) / 8 ≡ at / 8 = omega arith in
    let q : at % 8 + (7 - (at + k) % 8) ≡ j = omega arith in
    let far : slice_index (slice_set (slice_set b (at / 8) u) (at / 8 + 1) w) (at / 8) ≡ slice_index (slice_set b (at / 8) u) (at / 8) =
    get_or-set_other (slice_set b (at / 8) u) (at / 8 + 1) (at / 8) w 0 (λ t. absurd (omega arith)) in
    let f : slice_index (slice_set b (at / 8) u) (at / 8) ≡ u = get_or-set_same b (at / 8) u 0 (omega arith) in
    sym (ap (λ (i : ℕ). bit_at (slice_index (slice_set (slice_set b (at / 8) u) (at / 8 + 1) w) i) (7 - (at + k) % 8)) p
    ∙ ap (λ (x : ℕ). bit_at x (7 - (at + k) % 8)) (far ∙ f)
    ∙ joined_low (slice_index b (at / 8)) v (at % 8) (7 - (at + k) % 8) (omega arith) (omega arith)
    ∙ ap (λ (i : ℕ). bit_at v i) q))
    (λ (m : 8 ≤ at % 8 + k).
    let p : (at + k) / 8 ≡ at / 8 + 1 = omega arith in
    let q : 7 - (at + k) % 8 - (8 - at % 8) ≡ j = omega arith in
    let f : slice_index (slice_set (slice_set b (at / 8) u) (at / 8 + 1) w) (at / 8 + 1) ≡ w = get_or-set_same (slice_set b (at / 8) u) (at / 8 + 1) w 0 (omega arith) in
    sym (ap (λ (i : ℕ). bit_at (slice_index (slice_set (slice_set b (at / 8) u) (at / 8 + 1) w) i) (7 - (at + k) % 8)) p
    ∙ ap (λ (x : ℕ). bit_at x (7 - (at + k) % 8)) f
    ∙ bit_at_mod (v * 2 ^ (8 - at % 8)) 8 (7 - (at + k) % 8) (omega arith)
    ∙ bit_at_shl_high v (8 - at % 8) (7 - (at + k) % 8) (omega arith)
    ∙ ap (λ (i : ℕ). bit_at v i) q))
    (cases_lt (at % 8 + k) 8)

pub put-shifted : (b : List ℕ) (at v : ℕ) → v < 2 ^ 8 → at + 8 ≤ 8 * length b → at % 8 ≢ 0
    → bits_from (slice_set (slice_set b (at / 8) (bit_or (slice_index b (at / 8) / 2 ^ (8 - at % 8) * 2 ^ (8 - at % 8) % 2 ^ 8) (v / 2 ^ (at % 8)))) (at / 8 + 1) (v * 2 ^ (8 - at % 8) % 2 ^ 8)) 0 (at + 8)
    ≡ bits_from b 0 at ++ spelled 8 v
put-shifted b at v g h e =
    written b _ at v
    (λ k l. put-before b at v k (v * 2 ^ (8 - at % 8) % 2 ^ 8) g h e l)
    (λ k j s. put-places b at v k j h e s)
