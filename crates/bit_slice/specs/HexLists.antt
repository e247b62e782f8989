-- Hexadecimal digits, and lemmas on the texts of bits.
use Rattle.std.specs.Prelude.{◌≡◌, ℕ, zero, suc, ◌+◌, ◌-◌, ◌*◌, ◌/◌, ◌%◌, ◌^◌, ◌<◌, ◌≤◌, ◌&&◌, ◌||◌, ◌==◌, Bool, true}
use Rattle.std.specs.Prelude.{List, [], ◌∷◌, ◌++◌, length, map, take, slice_index, if◌then◌else◌}
use Rattle.std.specs.Bool.{nat_le, nat_lt}
use Rattle.std.proofs.Common.{refl, sym, ap, ◌∙◌, arith}
use Rattle.std.specs.List.{range_with_len}
use Rattle.std.specs.Int.{bit_at}
use Rattle.std.proofs.lemmas.Bool.Decides.{nat_tests}
use Rattle.std.proofs.lemmas.List.{append-nil, append_assoc, get_or_append_left, get_or-append-add, length-append}
use Rattle.std.proofs.lemmas.List.FromFn.{length-map-range_with_len, get_or-map-range_with_len}
use Rattle.std.proofs.lemmas.Nat.{shr-shr}
use Rattle.bit_slice.specs.Bits.{AreBits, number_of, spelled, completed_bit, completed_to, hex_digit, hex_text}
use Rattle.bit_slice.specs.BitLists.{index-spelled, length-spelled, AreBits-append, AreBits-spelled, number_of-spelled}
use Rattle.bit_slice.specs.BitLists.{number_onto-high}
use Rattle.bit_slice.specs.Completion.{index-number_of, AreBits-map-range, completed_bit-lt, groups-by_index}
use Rattle.bit_slice.specs.Completion.{length-completed_to_digits}

-- ---- digits

-- '0' is 48, '9' is 57, 'A' is 65, 'F' is 70
abbrev pub is_hex_digit : ℕ → Bool
is_hex_digit c = (nat_le 48 c && nat_le c 57) || (nat_le 65 c && nat_le c 70)

abbrev pub digit_number : ℕ → ℕ
digit_number c = if nat_lt c 65 then c - 48 else c - 55

-- each byte is a digit
abbrev pub AreDigits : List ℕ → Type 0
AreDigits ds = (i : ℕ) → i < length ds → is_hex_digit (slice_index ds i) ≡ true

-- the bits of digits, four to a digit
unfoldable pub digit_bits : List ℕ → List ℕ
digit_bits [] = []
digit_bits (d ∷ ds) = spelled 4 (digit_number d) ++ digit_bits ds

-- the number of digit k of the completed bits
abbrev pub completed_digit : List ℕ → ℕ → ℕ
completed_digit bits k = number_of (map (λ i. completed_bit bits (4 * k + i)) (range_with_len 0 4))

-- The lowest k bits of v are one 1 bit and zeros.
pub record EndsByMark (v k : ℕ) : Type 0 where
  pub one : bit_at v (k - 1) ≡ 1
  pub zeros : (y : ℕ) → y + 1 < k → bit_at v y ≡ 0

-- The text is the digits, or the digits and an underscore, where k is how many bits of the last digit it drops.
pub record IsSpelling (text digits : List ℕ) (k : ℕ) : Type 0 where
  pub are_digits : AreDigits digits
  pub few : k ≤ 3
  pub some : 0 < k → 0 < length digits
  pub plain : k ≡ 0 → text ≡ digits
  pub marked : 0 < k → text ≡ digits ++ 95 ∷ []
  pub last : 0 < k → EndsByMark (digit_number (slice_index digits (length digits - 1))) k

pub is_hex_digit-hex_digit : (n : ℕ) → n < 16 → is_hex_digit (hex_digit n) ≡ true
is_hex_digit-hex_digit n h = grind (arith, nat_tests)

pub digit_number-hex_digit : (n : ℕ) → n < 16 → digit_number (hex_digit n) ≡ n
digit_number-hex_digit n h = grind (arith, nat_tests)

pub hex_digit-digit_number : (d : ℕ) → is_hex_digit d ≡ true → hex_digit (digit_number d) ≡ d
hex_digit-digit_number d h = grind (arith, nat_tests)

pub digit_number-lt : (d : ℕ) → is_hex_digit d ≡ true → digit_number d < 16
digit_number-lt d h = grind (arith, nat_tests)

-- ---- the bits of digits

pub length-digit_bits : (ds : List ℕ) → length (digit_bits ds) ≡ 4 * length ds
unfolding digit_bits
length-digit_bits [] = refl
length-digit_bits (d ∷ ds) =
    let s : length (spelled 4 (digit_number d)) ≡ 4 = length-spelled 4 (digit_number d) in
    let r : length (digit_bits ds) ≡ 4 * length ds = length-digit_bits ds in
    length-append (spelled 4 (digit_number d)) (digit_bits ds) ∙ omega arith

pub AreBits-digit_bits : (ds : List ℕ) → AreBits (digit_bits ds)
unfolding digit_bits
AreBits-digit_bits [] = tt
AreBits-digit_bits (d ∷ ds) =
    AreBits-append (spelled 4 (digit_number d)) (digit_bits ds) (AreBits-spelled 4 (digit_number d))
    (AreBits-digit_bits ds)

pub digit_bits-push : (ds : List ℕ) (d : ℕ) → digit_bits (ds ++ d ∷ []) ≡ digit_bits ds ++ spelled 4 (digit_number d)
unfolding digit_bits
digit_bits-push [] d = append-nil (spelled 4 (digit_number d))
digit_bits-push (x ∷ xs) d =
    rw (digit_bits-push xs d)
    (sym (append_assoc (spelled 4 (digit_number x)) (digit_bits xs) (spelled 4 (digit_number d))))

pub index-digit_bits : (ds : List ℕ) (i x j : ℕ) → i < length ds → j + x ≡ 3
    → slice_index (digit_bits ds) (4 * i + x) ≡ bit_at (digit_number (slice_index ds i)) j
unfolding digit_bits
index-digit_bits [] i x j h e = absurd (omega arith)
index-digit_bits (d ∷ ds) zero x j h e =
    let z : 4 * 0 + x ≡ x = omega arith in
    let s : length (spelled 4 (digit_number d)) ≡ 4 = length-spelled 4 (digit_number d) in
    ap (λ (n : ℕ). slice_index (spelled 4 (digit_number d) ++ digit_bits ds) n) z
    ∙ get_or_append_left (spelled 4 (digit_number d)) (digit_bits ds) 0 x (omega arith)
    ∙ index-spelled 4 (digit_number d) x j (omega arith)
index-digit_bits (d ∷ ds) (suc i) x j h e =
    let s : length (spelled 4 (digit_number d)) ≡ 4 = length-spelled 4 (digit_number d) in
    let z : 4 * suc i + x ≡ length (spelled 4 (digit_number d)) + (4 * i + x) = omega arith in
    ap (λ (n : ℕ). slice_index (spelled 4 (digit_number d) ++ digit_bits ds) n) z
    ∙ get_or-append-add (spelled 4 (digit_number d)) (digit_bits ds) (4 * i + x) 0
    ∙ index-digit_bits ds i x j (omega arith) e

pub take-spelled : (m n v : ℕ) → m ≤ n → take m (spelled n v) ≡ spelled m (v / 2 ^ (n - m))
unfolding spelled
take-spelled zero n v h = refl
take-spelled (suc m) zero v h = absurd (omega arith)
take-spelled (suc m) (suc n) v h =
    let e : suc n - suc m ≡ n - m = omega arith in
    let s : n - m + m ≡ n = omega arith in
    let b : bit_at (v / 2 ^ (n - m)) m ≡ bit_at v n =
    ap (λ (x : ℕ). x % 2) (shr-shr v (n - m) m) ∙ ap (λ (k : ℕ). bit_at v k) s in
    rw (e, b, take-spelled m n v (omega arith)) refl

-- ---- digits of the completion

pub spelled-by : (n v a : ℕ) (f : ℕ → ℕ) → ((x j : ℕ) → j + x + 1 ≡ n → bit_at v j ≡ f (a + x))
    → spelled n v ≡ map f (range_with_len a n)
unfolding spelled
spelled-by zero v a f h = refl
spelled-by (suc n) v a f h =
    let z : a + 0 ≡ a = omega arith in
    let first : bit_at v n ≡ f a = h 0 n (omega arith) ∙ ap (λ (k : ℕ). f k) z in
    let rest : spelled n v ≡ map f (range_with_len (a + 1) n) =
    spelled-by n v (a + 1) f (λ x j e. let s : a + (x + 1) ≡ a + 1 + x = omega arith in h (x + 1) j (omega arith)
    ∙ ap (λ (k : ℕ). f k) s) in
    rw (first, rest) refl

pub number-by : (n v : ℕ) (f : ℕ → ℕ) → v < 2 ^ n → ((x j : ℕ) → j + x + 1 ≡ n → bit_at v j ≡ f x)
    → v ≡ number_of (map f (range_with_len 0 n))
number-by n v f h same =
    let s : spelled n v ≡ map f (range_with_len 0 n) =
    spelled-by n v 0 f (λ x j e. let z : 0 + x ≡ x = omega arith in same x j e ∙ ap (λ (k : ℕ). f k) (sym z)) in
    sym (number_of-spelled n v h) ∙ ap (λ (l : List ℕ). number_of l) s

pub bit_at-completed_digit : (bs : List ℕ) (k x j : ℕ) → AreBits bs → j + x + 1 ≡ 4
    → bit_at (completed_digit bs k) j ≡ completed_bit bs (4 * k + x)
bit_at-completed_digit bs k x j h e =
    let f : ℕ → ℕ = λ i. completed_bit bs (4 * k + i) in
    let n : length (map f (range_with_len 0 4)) ≡ 4 = length-map-range_with_len f 0 4 in
    index-number_of (map f (range_with_len 0 4)) x j (AreBits-map-range f 0 4 (λ i. completed_bit-lt bs (4 * k + i) h))
    (omega arith)
    ∙ get_or-map-range_with_len f 0 4 x x 0 (omega arith) (omega arith)

four-bits-lt : (bs : List ℕ) → AreBits bs → length bs ≡ 4 → number_of bs < 16
four-bits-lt bs h e =
    let d : number_of bs / 2 ^ length bs ≡ 0 = number_onto-high 0 bs h in
    let q : number_of bs / 2 ^ 4 ≡ 0 = ap (λ (n : ℕ). number_of bs / 2 ^ n) (sym e) ∙ d in
    omega arith

pub completed_digit-lt : (bs : List ℕ) (k : ℕ) → AreBits bs → completed_digit bs k < 16
completed_digit-lt bs k h =
    let f : ℕ → ℕ = λ i. completed_bit bs (4 * k + i) in
    four-bits-lt (map f (range_with_len 0 4)) (AreBits-map-range f 0 4 (λ i. completed_bit-lt bs (4 * k + i) h))
    (length-map-range_with_len f 0 4)

-- the mark after the digits
abbrev pub mark : List ℕ → List ℕ
mark bs = if length bs % 4 == 0 then [] else 95 ∷ []

map-map-range : (f g : ℕ → ℕ) (a n : ℕ) → map f (map g (range_with_len a n)) ≡ map (λ k. f (g k)) (range_with_len a n)
map-map-range f g a zero = refl
map-map-range f g a (suc n) = ap (λ (l : List ℕ). f (g a) ∷ l) (map-map-range f g (a + 1) n)

pub hex_text-by_index : (bs : List ℕ)
    → hex_text bs ≡ map (λ k. hex_digit (completed_digit bs k)) (range_with_len 0 ((length bs + 3) / 4)) ++ mark bs
unfolding hex_text
hex_text-by_index bs =
    let l : 4 * ((length bs + 3) / 4) ≤ length (completed_to 4 bs) =
    let e = length-completed_to_digits bs in omega arith in
    rw (groups-by_index 4 ((length bs + 3) / 4) bs l)
    (ap (λ (ds : List ℕ). ds ++ mark bs) (map-map-range hex_digit (completed_digit bs) 0 ((length bs + 3) / 4)))
