-- Digits without a leading zero are the decimal text of their number.
use Rattle.std.proofs.Common.{◌≡◌, ◌≢◌, ℕ, zero, suc, ◌+◌, ◌-◌, ◌*◌, ◌/◌, ◌%◌, ◌^◌, ◌<◌, ◌≤◌, ◌==◌, Bool, true, ◌&&◌, not, List, [], ◌∷◌, ◌++◌, length, take, get_or, decimal, refl, sym, ap, ◌∙◌, arith, append_assoc, append-nil}
use Rattle.std.specs.Char.{digit_value, is_ascii_digit}
use Rattle.std.specs.List.{list_all}
use Rattle.std.specs.Str.Parse.{digits_value, digits_value_after}
use Rattle.std.proofs.lemmas.Bool.{and_parts}
use Rattle.std.proofs.lemmas.Bool.Decides.{nat_tests}
use Rattle.std.proofs.lemmas.Fmt.{decimal_digit, decimal_step_wide}
use Rattle.std.proofs.lemmas.Int.Digits.{digits_value_more}
use Rattle.std.proofs.lemmas.Str.Parse.{digits_value-take-le}
use Rattle.bit_slice.specs.Names.{is_count}

pub digit_value-is : (c : ℕ) → is_ascii_digit c ≡ true → digit_value c ≡ c - 48
digit_value-is c h = grind (arith, nat_tests)

digit_low : (c : ℕ) → is_ascii_digit c ≡ true → 48 ≤ c
digit_low c h = grind (arith, nat_tests)

digit_high : (c : ℕ) → is_ascii_digit c ≡ true → c ≤ 57
digit_high c h = grind (arith, nat_tests)

pub decimal_push_wide : (n c : ℕ) → 0 < n → n * 10 + (c - 48) < 10 ^ 64 → 48 ≤ c → c ≤ 57 → decimal n ++ c ∷ [] ≡ decimal (n * 10 + (c - 48))
decimal_push_wide n c some few low high =
    let m : ℕ = n * 10 + (c - 48) in
    let q : m / 10 ≡ n = omega arith in
    let r : 48 + m % 10 ≡ c = omega arith in
    sym (decimal_step_wide m (omega arith) few ∙ ap (λ (k : ℕ). decimal k ++ (48 + m % 10) ∷ []) q ∙ ap (λ (k : ℕ). decimal n ++ k ∷ []) r)

grows : (n : ℕ) (ds : List ℕ) → n ≤ digits_value_after 10 n ds
grows n [] = omega arith
grows n (d ∷ ds) = let more = grows (n * 10 + digit_value d) ds in omega arith

-- digits after those of a number
after_number : (n : ℕ) (ds : List ℕ) → 0 < n → list_all is_ascii_digit ds ≡ true → digits_value_after 10 n ds < 10 ^ 64
    → decimal n ++ ds ≡ decimal (digits_value_after 10 n ds)
after_number n [] some h few = append-nil (decimal n)
after_number n (d ∷ ds) some h few =
    let parts = and_parts (is_ascii_digit d) (list_all is_ascii_digit ds) h in
    let same : digit_value d ≡ d - 48 = digit_value-is d parts.0 in
    let more : n * 10 + digit_value d ≤ digits_value_after 10 (n * 10 + digit_value d) ds = grows (n * 10 + digit_value d) ds in
    let low = digit_low d parts.0 in
    let high = digit_high d parts.0 in
    let one : decimal n ++ d ∷ [] ≡ decimal (n * 10 + digit_value d) =
    decimal_push_wide n d some (omega arith) low high ∙ ap (λ (v : ℕ). decimal (n * 10 + v)) (sym same) in
    sym (append_assoc (decimal n) (d ∷ []) ds) ∙ ap (λ (l : List ℕ). l ++ ds) one ∙ after_number (n * 10 + digit_value d) ds (omega arith) parts.1 few

-- the digits are the text of their number
pub decimal_count : (ds : List ℕ) → is_count ds ≡ true → 0 < length ds → digits_value 10 ds < 10 ^ 64 → ds ≡ decimal (digits_value 10 ds)
decimal_count [] h some few = absurd (omega arith)
decimal_count (d ∷ ds) h some few =
    let parts = and_parts (is_ascii_digit d && not (d == 48)) (list_all is_ascii_digit ds) h in
    let first = and_parts (is_ascii_digit d) (not (d == 48)) parts.0 in
    let same : digit_value d ≡ d - 48 = digit_value-is d first.0 in
    let low = digit_low d first.0 in
    let high = digit_high d first.0 in
    let not_zero : d ≢ 48 = grind (arith, nat_tests) in
    let z : 0 * 10 + digit_value d ≡ d - 48 = omega arith in
    let text : decimal (d - 48) ≡ d ∷ [] = decimal_digit (d - 48) (omega arith) ∙ (let k : 48 + (d - 48) ≡ d = omega arith in ap (λ (n : ℕ). n ∷ []) k) in
    let start : decimal (0 * 10 + digit_value d) ≡ d ∷ [] = ap decimal z ∙ text in
    ap (λ (l : List ℕ). l ++ ds) (sym start) ∙ after_number (0 * 10 + digit_value d) ds (omega arith) parts.1 few

-- digits that do not begin by a zero are digits
pub count_digits : (ds : List ℕ) → is_count ds ≡ true → list_all is_ascii_digit ds ≡ true
count_digits [] h = refl
count_digits (d ∷ ds) h =
    let parts = and_parts (is_ascii_digit d && not (d == 48)) (list_all is_ascii_digit ds) h in
    let first = and_parts (is_ascii_digit d) (not (d == 48)) parts.0 in
    ap (λ (t : Bool). t && list_all is_ascii_digit ds) first.0 ∙ parts.1

pub digit_at : (ds : List ℕ) (i : ℕ) → i < length ds → list_all is_ascii_digit ds ≡ true → is_ascii_digit (get_or ds i 0) ≡ true
digit_at [] i l h = absurd (omega arith)
digit_at (d ∷ ds) zero l h = (and_parts (is_ascii_digit d) (list_all is_ascii_digit ds) h).0
digit_at (d ∷ ds) (suc i) l h = digit_at ds i (omega arith) (and_parts (is_ascii_digit d) (list_all is_ascii_digit ds) h).1

-- ---- for the loop over digits

pub digit_bounds_at : (ds : List ℕ) (i : ℕ) → i < length ds → list_all is_ascii_digit ds ≡ true → (48 ≤ get_or ds i 0) × (get_or ds i 0 ≤ 57)
digit_bounds_at ds i l h = (digit_low (get_or ds i 0) (digit_at ds i l h), digit_high (get_or ds i 0) (digit_at ds i l h))

pub value_more : (ds : List ℕ) (i : ℕ) → i < length ds → list_all is_ascii_digit ds ≡ true
    → digits_value 10 (take (i + 1) ds) ≡ digits_value 10 (take i ds) * 10 + (get_or ds i 0 - 48)
value_more ds i l h =
    digits_value_more 10 ds i l ∙ ap (λ (v : ℕ). digits_value 10 (take i ds) * 10 + v) (digit_value-is (get_or ds i 0) (digit_at ds i l h))

pub value_most : (ds : List ℕ) (i : ℕ) → digits_value 10 (take i ds) ≤ digits_value 10 ds
value_most ds i = digits_value-take-le 10 ds i (omega arith)
