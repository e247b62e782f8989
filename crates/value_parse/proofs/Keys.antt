-- The order of keys, by places.
use Rattle.std.proofs.Common.{◌≡◌, ◌<◌, ◌≤◌, ◌+◌, ◌==◌, ℕ, suc, true, false, List, [], ◌∷◌, length, drop, refl, sym, ap, ◌∙◌, arith, nat_lt, slice_index, min, ⊎_elim}
use Rattle.std.proofs.Math.Seq.{drop-cons}
use Rattle.std.proofs.lemmas.List.{length-drop}
use Rattle.std.proofs.lemmas.Bool.{cases_lt}
use Rattle.std.proofs.lemmas.Bool.Decides.{nat_tests}
use Rattle.value_text.specs.Writes.{comes_after}

first-same : (a b : ℕ) (xs ys : List ℕ) → a ≡ b → comes_after (a ∷ xs) (b ∷ ys) ≡ comes_after xs ys
first-same a b xs ys e = ap (λ (c : ℕ). comes_after (a ∷ xs) (c ∷ ys)) (sym e) ∙ (let t : (a == a) ≡ true = grind (arith, nat_tests) in same t)
  where
    same : (a == a) ≡ true → comes_after (a ∷ xs) (a ∷ ys) ≡ comes_after xs ys
    same t = rw t refl

first-less : (a b : ℕ) (xs ys : List ℕ) → a < b → comes_after (a ∷ xs) (b ∷ ys) ≡ true
first-less a b xs ys l = differ (let t : (a == b) ≡ false = grind (arith, nat_tests) in t) (let t : (b == a) ≡ false = grind (arith, nat_tests) in t) (let t : nat_lt a b ≡ true = grind (arith, nat_tests) in t)
  where
    differ : (a == b) ≡ false → (b == a) ≡ false → nat_lt a b ≡ true → comes_after (a ∷ xs) (b ∷ ys) ≡ true
    differ e f g = rw (e, f, g) refl

first-more : (a b : ℕ) (xs ys : List ℕ) → b < a → comes_after (a ∷ xs) (b ∷ ys) ≡ false
first-more a b xs ys l = differ (let t : (a == b) ≡ false = grind (arith, nat_tests) in t) (let t : nat_lt a b ≡ false = grind (arith, nat_tests) in t)
  where
    differ : (a == b) ≡ false → nat_lt a b ≡ false → comes_after (a ∷ xs) (b ∷ ys) ≡ false
    differ e g = rw (e, g) refl

pub after-same : (xs ys : List ℕ) (i : ℕ) → i < length xs → i < length ys → slice_index xs i ≡ slice_index ys i
    → comes_after (drop (i + 1) xs) (drop (i + 1) ys) ≡ comes_after (drop i xs) (drop i ys)
after-same xs ys i h k e =
    let s : i + 1 ≡ suc i = omega arith in
    rw (drop-cons xs i 0 h, drop-cons ys i 0 k, s) (sym (first-same (slice_index xs i) (slice_index ys i) (drop (suc i) xs) (drop (suc i) ys) e))

pub after-less : (xs ys : List ℕ) (i : ℕ) → i < length xs → i < length ys → slice_index xs i < slice_index ys i
    → comes_after (drop i xs) (drop i ys) ≡ true
after-less xs ys i h k l =
    rw (drop-cons xs i 0 h, drop-cons ys i 0 k) (first-less (slice_index xs i) (slice_index ys i) (drop (suc i) xs) (drop (suc i) ys) l)

pub after-more : (xs ys : List ℕ) (i : ℕ) → i < length xs → i < length ys → slice_index ys i < slice_index xs i
    → comes_after (drop i xs) (drop i ys) ≡ false
after-more xs ys i h k l =
    rw (drop-cons xs i 0 h, drop-cons ys i 0 k) (first-more (slice_index xs i) (slice_index ys i) (drop (suc i) xs) (drop (suc i) ys) l)

no-key : (xs ys : List ℕ) → length ys ≡ 0 → comes_after xs ys ≡ false
no-key xs [] h = refl
no-key xs (b ∷ ys) h = absurd (omega arith)

begins-all : (xs ys : List ℕ) → length xs ≡ 0 → comes_after xs ys ≡ false
begins-all [] [] h = refl
begins-all [] (b ∷ ys) h = refl
begins-all (a ∷ xs) ys h = absurd (omega arith)

-- where one of the two ends, the key does not come after
pub after-rest : (xs ys : List ℕ) (i : ℕ) → min (length xs) (length ys) ≤ i → comes_after (drop i xs) (drop i ys) ≡ false
after-rest xs ys i l = ⊎_elim
    (λ (s : length xs < length ys). begins-all (drop i xs) (drop i ys) (let e = length-drop i xs in omega arith))
    (λ (s : length ys ≤ length xs). no-key (drop i xs) (drop i ys) (let e = length-drop i ys in omega arith))
    (cases_lt (length xs) (length ys))
