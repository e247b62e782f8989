-- Lemmas on the bits of bytes.
use Rattle.std.proofs.Common.{◌≡◌, ℕ, zero, suc, ◌+◌, ◌-◌, ◌<◌, ◌≤◌, List, [], ◌∷◌, ◌++◌, length, take, drop, refl, ap}
use Rattle.std.proofs.Common.{sym, ◌∙◌, arith, slice_index, ◌*◌, ◌^◌, lit<, subst}
use Rattle.bit_slice.specs.Bits.{bits_from, bit_of, number_onto, number_of, spelled, bit_number, AreBits}
use Rattle.std.specs.Int.RustNames.{bit_and}
use Rattle.std.specs.Prelude.{eqb}
use Rattle.std.proofs.lemmas.List.{append-nil, length-take-le, length-drop}
use Rattle.std.proofs.Math.Seq.{take-add}
use Rattle.std.proofs.lemmas.Nat.{shr-shr}
use Rattle.std.proofs.Math.Nat.{pow-suc, div-eq_of_lt, div-lt_iff_lt-mul}
use Rattle.std.proofs.Math.Pow.{pow_mono}
use Rattle.std.proofs.lemmas.Nat.Bits.{shr_and_one, bit_at-lt, bit_at_set_same, bit_at_set_other, bit_at_clear_same}
use Rattle.std.proofs.lemmas.Nat.Bits.{bit_at_clear_other}
use Rattle.std.proofs.lemmas.Bool.{cases_eq}
use Rattle.std.proofs.lemmas.Grind.{common_steps}
use Rattle.std.specs.Int.{bit_at}
use Rattle.std.proofs.Common.{◌/◌, ◌%◌, ◌≢◌, slice_set, ⊎_elim, append_assoc}

pub length-bits_from : (bytes : List ℕ) (i n : ℕ) → length (bits_from bytes i n) ≡ n
unfolding bits_from
length-bits_from bytes i zero = refl
length-bits_from bytes i (suc n) = grind (arith, length-bits_from bytes (i + 1) n)

pub take-bits_from : (bytes : List ℕ) (i n k : ℕ) → k ≤ n → take k (bits_from bytes i n) ≡ bits_from bytes i k
unfolding bits_from
take-bits_from bytes i n zero h = refl
take-bits_from bytes i zero (suc k) h = absurd (omega arith)
take-bits_from bytes i (suc n) (suc k) h = ap (λ l. bit_of bytes i ∷ l) (take-bits_from bytes (i + 1) n k (omega arith))

pub drop-bits_from : (bytes : List ℕ) (i n k : ℕ) → k ≤ n
    → drop k (bits_from bytes i n) ≡ bits_from bytes (i + k) (n - k)
unfolding bits_from
drop-bits_from bytes i n zero h = let e : i + 0 ≡ i = omega arith in let f : n - 0 ≡ n = omega arith in rw (e, f) refl
drop-bits_from bytes i zero (suc k) h = absurd (omega arith)
drop-bits_from bytes i (suc n) (suc k) h =
    let e : i + 1 + k ≡ i + suc k = omega arith in
    let f : suc n - suc k ≡ n - k = omega arith in
    rw (f, ← e) (drop-bits_from bytes (i + 1) n k (omega arith))

pub index-bits_from : (bytes : List ℕ) (i n k : ℕ) → k < n → slice_index (bits_from bytes i n) k ≡ bit_of bytes (i + k)
unfolding bits_from
index-bits_from bytes i zero k h = absurd (omega arith)
index-bits_from bytes i (suc n) zero h = let e : i + 0 ≡ i = omega arith in rw e refl
index-bits_from bytes i (suc n) (suc k) h =
    let e : i + 1 + k ≡ i + suc k = omega arith in
    rw (← e) (index-bits_from bytes (i + 1) n k (omega arith))

-- one bit more
pub bits_from-more : (bytes : List ℕ) (i n : ℕ)
    → bits_from bytes i (n + 1) ≡ bits_from bytes i n ++ bit_of bytes (i + n) ∷ []
unfolding bits_from
bits_from-more bytes i zero = let e : i + 0 ≡ i = omega arith in rw e refl
bits_from-more bytes i (suc n) =
    let e : i + 1 + n ≡ i + suc n = omega arith in
    let f : suc n + 1 ≡ suc (n + 1) = omega arith in
    rw (f, ← e) (ap (λ l. bit_of bytes i ∷ l) (bits_from-more bytes (i + 1) n))

pub bits_from-none : (bytes : List ℕ) (i : ℕ) → bits_from bytes i 0 ≡ []
unfolding bits_from
bits_from-none bytes i = refl

pub number_of-none : (bytes : List ℕ) (i : ℕ) → number_of (bits_from bytes i 0) ≡ 0
unfolding bits_from number_onto
number_of-none bytes i = refl

pub number_onto-more : (a b : ℕ) (bs : List ℕ) → number_onto a (bs ++ b ∷ []) ≡ 2 * number_onto a bs + b
unfolding number_onto
number_onto-more a b [] = refl
number_onto-more a b (x ∷ bs) = number_onto-more (2 * a + x) b bs

-- the number of one bit more
pub number_of-more : (bytes : List ℕ) (i n : ℕ)
    → number_of (bits_from bytes i (n + 1)) ≡ 2 * number_of (bits_from bytes i n) + bit_of bytes (i + n)
number_of-more bytes i n =
    rw (bits_from-more bytes i n) (number_onto-more 0 (bit_of bytes (i + n)) (bits_from bytes i n))

number_of-lt-more : (bytes : List ℕ) (i n : ℕ) → number_of (bits_from bytes i n) < 2 ^ n
    → number_of (bits_from bytes i (n + 1)) < 2 ^ (n + 1)
number_of-lt-more bytes i n r =
    let e : suc n ≡ n + 1 = omega arith in
    let p : 2 ^ (n + 1) ≡ 2 ^ n * 2 = rw (← e) (pow-suc 2 n) in
    let q : bit_of bytes (i + n) < 2 = bit_at-lt _ _ in
    let m : number_of (bits_from bytes i (n + 1)) ≡ 2 * number_of (bits_from bytes i n) + bit_of bytes (i + n) =
    number_of-more bytes i n in
    omega arith

pub number_of-lt : (bytes : List ℕ) (i n : ℕ) → number_of (bits_from bytes i n) < 2 ^ n
unfolding bits_from number_onto
number_of-lt bytes i zero = lit< tt
number_of-lt bytes i (suc n) =
    let e : n + 1 ≡ suc n = omega arith in
    let P : ℕ → Type 0 = λ m. number_of (bits_from bytes i m) < 2 ^ m in
    subst P e (number_of-lt-more bytes i n (number_of-lt bytes i n))

-- a number of fewer than 128 bits
pub number_of-lt-127 : (bytes : List ℕ) (i n : ℕ) → n < 128 → number_of (bits_from bytes i n) < 2 ^ 127
number_of-lt-127 bytes i n h =
    let p : 2 ^ n ≤ 2 ^ 127 = pow_mono {i = n} {j = 127} (omega arith) in
    let r : number_of (bits_from bytes i n) < 2 ^ n = number_of-lt bytes i n in
    omega arith

-- ---- each bit is 0 or 1

pub AreBits-bits_from : (bytes : List ℕ) (i n : ℕ) → AreBits (bits_from bytes i n)
unfolding bits_from
AreBits-bits_from bytes i zero = tt
AreBits-bits_from bytes i (suc n) = (bit_at-lt _ _, AreBits-bits_from bytes (i + 1) n)

pub ruleset bit_lists = (
  AreBits-bits_from,
  bits_from-none,
  length-bits_from,
  take-bits_from,
  drop-bits_from,
  index-bits_from,
  number_of-none,
  number_of-more,
  number_of-lt-127,
  shr_and_one,
  bit_at-lt,
)

-- ---- writing one bit

pub bits_from-same : (b c : List ℕ) (i n : ℕ) → ((k : ℕ) → k < i + n → bit_of b k ≡ bit_of c k)
    → bits_from b i n ≡ bits_from c i n
unfolding bits_from
bits_from-same b c i zero h = refl
bits_from-same b c i (suc n) h =
    rw (h i (omega arith)) (ap (λ l. bit_of c i ∷ l) (bits_from-same b c (i + 1) n (λ k l. h k (omega arith))))

pub ruleset bit_sets = (bit_at_set_same, bit_at_set_other, bit_at_clear_same, bit_at_clear_other)

-- another bit, after the byte of bit `at` is written over
bit_of-other : (b : List ℕ) (at v k : ℕ) → at / 8 < length b → k < at
    → ((i : ℕ) → i < 8 → i ≢ 7 - at % 8 → bit_at v i ≡ bit_at (slice_index b (at / 8)) i)
    → bit_of (slice_set b (at / 8) v) k ≡ bit_of b k
bit_of-other b at v k l h same = ⊎_elim
    (λ (e : k / 8 ≡ at / 8).
    let f : slice_index (slice_set b (at / 8) v) (k / 8) ≡ v = grind (arith, common_steps) in
    rw (f, e) (same (7 - k % 8) (omega arith) (λ g. omega arith)))
    (λ (e : k / 8 ≢ at / 8).
    let f : slice_index (slice_set b (at / 8) v) (k / 8) ≡ slice_index b (k / 8) = grind (arith, common_steps) in
    rw f refl)
    (cases_eq (k / 8) (at / 8))

pub put-bits_from : (b : List ℕ) (at v bit : ℕ) → at < 8 * length b
    → bit_at v (7 - at % 8) ≡ bit
    → ((i : ℕ) → i < 8 → i ≢ 7 - at % 8 → bit_at v i ≡ bit_at (slice_index b (at / 8)) i)
    → bits_from (slice_set b (at / 8) v) 0 (at + 1) ≡ bits_from b 0 at ++ bit ∷ []
put-bits_from b at v bit h e same =
    let l : at / 8 < length b = omega arith in
    let f : slice_index (slice_set b (at / 8) v) (at / 8) ≡ v = grind (arith, common_steps) in
    let z : 0 + at ≡ at = omega arith in
    let front : bits_from (slice_set b (at / 8) v) 0 at ≡ bits_from b 0 at =
    bits_from-same _ _ 0 at (λ k lt. bit_of-other b at v k l (omega arith) same) in
    rw (bits_from-more (slice_set b (at / 8) v) 0 at, z, front, f, e) refl

-- ---- a number's bits

pub spelled-none : (v : ℕ) → spelled 0 v ≡ []
unfolding spelled
spelled-none v = refl

pub spelled-step : (i v : ℕ) → 0 < i → spelled i v ≡ bit_at v (i - 1) ∷ spelled (i - 1) v
unfolding spelled
spelled-step zero v h = absurd (omega arith)
spelled-step (suc k) v h = let e : suc k - 1 ≡ k = omega arith in rw e refl

-- one bit more of a number is written
pub spelled-pushed : (xs : List ℕ) (b i v : ℕ) → 0 < i → b ≡ bit_at v (i - 1)
    → (xs ++ b ∷ []) ++ spelled (i - 1) v ≡ xs ++ spelled i v
spelled-pushed xs b i v h e = rw (spelled-step i v h, e, append_assoc) refl

number_of_bit : (b : ℕ) → b < 2 → bit_number (eqb b 1) ≡ b
number_of_bit zero h = refl
number_of_bit (suc zero) h = refl
number_of_bit (suc (suc b)) h = absurd (omega arith)

halves : (v k : ℕ) → 2 * (v / 2 ^ suc k) + bit_at v k ≡ v / 2 ^ k
halves v k =
    let s : suc k ≡ k + 1 = omega arith in
    let e : v / 2 ^ suc k ≡ v / 2 ^ k / 2 = rw s (sym (shr-shr v k 1)) in
    rw e (omega arith)

-- a shift and a mask give a bit
pub shr_bit : (v k : ℕ) → bit_number (eqb (bit_and (v / 2 ^ k) 1) 1) ≡ bit_at v k
shr_bit v k = rw (shr_and_one v k) (number_of_bit (bit_at v k) (bit_at-lt v k))

-- where no bit is left, all are written
pub spelled-all : (xs ys : List ℕ) (i v : ℕ) → i ≤ 0 → xs ++ spelled i v ≡ ys → xs ≡ ys
spelled-all xs ys i v h e =
    let z : i ≡ 0 = omega arith in
    let f : xs ++ spelled 0 v ≡ ys = rw (← z) e in
    sym (append-nil xs) ∙ rw (spelled-none v) at f

number_onto-spelled : (n v : ℕ) → number_onto (v / 2 ^ n) (spelled n v) ≡ v
unfolding spelled number_onto
number_onto-spelled zero v = grind arith
number_onto-spelled (suc k) v =
    let e : 2 * (v / 2 ^ suc k) + bit_at v k ≡ v / 2 ^ k = halves v k in
    let P : ℕ → Type 0 = λ a. number_onto a (spelled k v) ≡ v in
    subst P (sym e) (number_onto-spelled k v)

pub number_of-spelled : (n v : ℕ) → v < 2 ^ n → number_of (spelled n v) ≡ v
number_of-spelled n v h =
    let z : v / 2 ^ n ≡ 0 = div-eq_of_lt h in
    let f : number_onto (v / 2 ^ n) (spelled n v) ≡ v = number_onto-spelled n v in
    rw z at f

-- ---- numbers and their bits, both ways

pub length-spelled : (n v : ℕ) → length (spelled n v) ≡ n
unfolding spelled
length-spelled zero v = refl
length-spelled (suc n) v = grind (arith, length-spelled n v)

pub AreBits-spelled : (n v : ℕ) → AreBits (spelled n v)
unfolding spelled
AreBits-spelled zero v = tt
AreBits-spelled (suc n) v = (bit_at-lt v n, AreBits-spelled n v)

pub number_onto-high : (a : ℕ) (bs : List ℕ) → AreBits bs → number_onto a bs / 2 ^ length bs ≡ a
unfolding number_onto
number_onto-high a [] h = grind arith
number_onto-high a (x ∷ xs) h =
    let e : length (x ∷ xs) ≡ length xs + 1 = omega arith in
    let r : number_onto (2 * a + x) xs / 2 ^ length xs ≡ 2 * a + x = number_onto-high (2 * a + x) xs h.1 in
    let s : number_onto (2 * a + x) xs / 2 ^ (length xs + 1) ≡ number_onto (2 * a + x) xs / 2 ^ length xs / 2 ^ 1 =
    sym (shr-shr (number_onto (2 * a + x) xs) (length xs) 1) in
    let b : x < 2 = h.0 in
    let P : ℕ → Type 0 = λ m. number_onto (2 * a + x) xs / 2 ^ m ≡ a in
    subst P (sym e) (s ∙ rw r (omega arith))

pub spelled-number_onto : (a : ℕ) (bs : List ℕ) → AreBits bs → spelled (length bs) (number_onto a bs) ≡ bs
unfolding spelled number_onto
spelled-number_onto a [] h = refl
spelled-number_onto a (x ∷ xs) h =
    let b : x < 2 = h.0 in
    let r : number_onto (2 * a + x) xs / 2 ^ length xs ≡ 2 * a + x = number_onto-high (2 * a + x) xs h.1 in
    let first : bit_at (number_onto (2 * a + x) xs) (length xs) ≡ x = ap (λ (m : ℕ). m % 2) r ∙ omega arith in
    rw (first, spelled-number_onto (2 * a + x) xs h.1) refl

pub spelled-number_of : (bs : List ℕ) → AreBits bs → spelled (length bs) (number_of bs) ≡ bs
spelled-number_of bs h = spelled-number_onto 0 bs h

pub index-spelled : (n v k j : ℕ) → j + k + 1 ≡ n → slice_index (spelled n v) k ≡ bit_at v j
unfolding spelled
index-spelled zero v k j h = absurd (omega arith)
index-spelled (suc n) v zero j h = let e : n ≡ j = omega arith in rw e refl
index-spelled (suc n) v (suc k) j h = index-spelled n v k j (omega arith)

pub number_of-bound : (bs : List ℕ) → AreBits bs → number_of bs < 2 ^ length bs
number_of-bound bs h =
    let d : number_of bs / 2 ^ length bs ≡ 0 = number_onto-high 0 bs h in
    let p : 1 ≤ 2 ^ length bs = pow_mono {i = 0} {j = length bs} (omega arith) in
    let m : number_of bs < 1 * 2 ^ length bs =
    (div-lt_iff_lt-mul {k = 2 ^ length bs} {x = number_of bs} {y = 1} p).0 (omega arith) in
    omega arith

pub AreBits-append : (xs ys : List ℕ) → AreBits xs → AreBits ys → AreBits (xs ++ ys)
AreBits-append [] ys h l = l
AreBits-append (x ∷ xs) ys h l = (h.0, AreBits-append xs ys h.1 l)

pub AreBits-take : (n : ℕ) (xs : List ℕ) → AreBits xs → AreBits (take n xs)
AreBits-take zero xs h = tt
AreBits-take (suc n) [] h = tt
AreBits-take (suc n) (x ∷ xs) h = (h.0, AreBits-take n xs h.1)

pub AreBits-drop : (n : ℕ) (xs : List ℕ) → AreBits xs → AreBits (drop n xs)
AreBits-drop zero xs h = h
AreBits-drop (suc n) [] h = tt
AreBits-drop (suc n) (x ∷ xs) h = AreBits-drop n xs h.1

-- eight bits from bit a on
pub number_of-part : (bytes : List ℕ) (i n a : ℕ) → a + 8 ≤ n
    → number_of (bits_from bytes (i + a) 8) ≡ number_of (take 8 (drop a (bits_from bytes i n)))
number_of-part bytes i n a h =
    sym (ap (λ (l : List ℕ). number_of (take 8 l)) (drop-bits_from bytes i n a (omega arith))
    ∙ ap (λ (l : List ℕ). number_of l) (take-bits_from bytes (i + a) (n - a) 8 (omega arith)))

-- whole bytes of bits, one after another
pub whole-byte-pushed : (new old init bits : List ℕ) (i v : ℕ) → AreBits bits → 8 * i + 8 ≤ length bits
    → old ≡ init ++ take (i * 8) bits → v ≡ number_of (take 8 (drop (8 * i) bits)) → new ≡ old ++ spelled 8 v
    → new ≡ init ++ take ((i + 1) * 8) bits
whole-byte-pushed new old init bits i v h l o e n =
    let c : 8 * i ≡ i * 8 = omega arith in
    let m : i * 8 + 8 ≡ (i + 1) * 8 = omega arith in
    let k : length (take 8 (drop (8 * i) bits)) ≡ 8 =
    length-take-le 8 (drop (8 * i) bits) (let d = length-drop (8 * i) bits in omega arith) in
    let b : spelled 8 v ≡ take 8 (drop (8 * i) bits) =
    ap (λ (x : ℕ). spelled 8 x) e ∙ ap (λ (x : ℕ). spelled x (number_of (take 8 (drop (8 * i) bits)))) (sym k)
    ∙ spelled-number_of (take 8 (drop (8 * i) bits))
    (AreBits-take 8 (drop (8 * i) bits) (AreBits-drop (8 * i) bits h)) in
    n ∙ ap (λ (x : List ℕ). x ++ spelled 8 v) o ∙ ap (λ (x : List ℕ). (init ++ take (i * 8) bits) ++ x) b
    ∙ append_assoc init (take (i * 8) bits) (take 8 (drop (8 * i) bits))
    ∙ ap (λ (x : ℕ). init ++ (take (i * 8) bits ++ take 8 (drop x bits))) c
    ∙ ap (λ (x : List ℕ). init ++ x) (sym (take-add (i * 8) 8 bits) ∙ ap (λ (x : ℕ). take x bits) m)
