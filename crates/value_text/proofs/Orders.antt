-- The order of bits, by places.
use Rattle.std.proofs.Common.{◌≡◌, ◌≢◌, ◌<◌, ◌≤◌, ◌+◌, ℕ, suc, true, false, List, [], ◌∷◌, length, drop, refl, sym, ◌∙◌, arith, nat_lt, slice_index, min, ⊎_elim}
use Rattle.std.proofs.Math.Seq.{drop-cons}
use Rattle.std.proofs.lemmas.List.{length-drop}
use Rattle.std.proofs.lemmas.Bool.{cases_lt}
use Rattle.std.proofs.lemmas.Bool.Decides.{nat_tests}
use Rattle.value_text.specs.Text.{comes_before}

first-same : (a b : ℕ) (xs ys : List ℕ) → a ≡ b → comes_before (a ∷ xs) (b ∷ ys) ≡ comes_before xs ys
first-same a b xs ys e = grind (arith, nat_tests)

first-differs : (a b : ℕ) (xs ys : List ℕ) → a ≢ b → comes_before (a ∷ xs) (b ∷ ys) ≡ nat_lt a b
first-differs a b xs ys e = grind (arith, nat_tests)

pub before-same : (xs ys : List ℕ) (i : ℕ) → i < length xs → i < length ys → slice_index xs i ≡ slice_index ys i
    → comes_before (drop (i + 1) xs) (drop (i + 1) ys) ≡ comes_before (drop i xs) (drop i ys)
before-same xs ys i h k e =
    let s : i + 1 ≡ suc i = omega arith in
    rw (drop-cons xs i 0 h, drop-cons ys i 0 k, s) (sym (first-same (slice_index xs i) (slice_index ys i) (drop (suc i) xs) (drop (suc i) ys) e))

pub before-differs : (xs ys : List ℕ) (i : ℕ) → i < length xs → i < length ys → slice_index xs i ≢ slice_index ys i
    → comes_before (drop i xs) (drop i ys) ≡ nat_lt (slice_index xs i) (slice_index ys i)
before-differs xs ys i h k e =
    rw (drop-cons xs i 0 h, drop-cons ys i 0 k) (first-differs (slice_index xs i) (slice_index ys i) (drop (suc i) xs) (drop (suc i) ys) e)

none-before : (xs ys : List ℕ) → length ys ≡ 0 → comes_before xs ys ≡ false
none-before xs [] h = refl
none-before xs (b ∷ ys) h = absurd (omega arith)

all-before : (xs ys : List ℕ) → length xs ≡ 0 → 0 < length ys → comes_before xs ys ≡ true
all-before xs [] h k = absurd (omega arith)
all-before [] (b ∷ ys) h k = refl
all-before (a ∷ xs) (b ∷ ys) h k = absurd (omega arith)

-- one of the two ends at place i
pub before-long : (xs ys : List ℕ) (i : ℕ) → length ys ≤ i → comes_before (drop i xs) (drop i ys) ≡ false
before-long xs ys i l = none-before (drop i xs) (drop i ys) (let e = length-drop i ys in omega arith)

pub before-short : (xs ys : List ℕ) (i : ℕ) → length xs ≤ i → i < length ys → comes_before (drop i xs) (drop i ys) ≡ true
before-short xs ys i h k =
    all-before (drop i xs) (drop i ys) (let e = length-drop i xs in omega arith) (let e = length-drop i ys in omega arith)

-- where one of the two ends, the lengths decide
pub before-rest : (xs ys : List ℕ) (i m n : ℕ) → m ≡ length xs → n ≡ length ys → i ≤ length xs → i ≤ length ys → min (length xs) (length ys) ≤ i
    → nat_lt m n ≡ comes_before (drop i xs) (drop i ys)
before-rest xs ys i m n f g h k l = ⊎_elim
    (λ (s : length xs < length ys).
    let yes : nat_lt m n ≡ true = grind (arith, nat_tests) in
    yes ∙ sym (before-short xs ys i (omega arith) (omega arith)))
    (λ (s : length ys ≤ length xs).
    let no : nat_lt m n ≡ false = grind (arith, nat_tests) in
    no ∙ sym (before-long xs ys i (omega arith)))
    (cases_lt (length xs) (length ys))
