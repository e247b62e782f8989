-- Numbers, digit by digit.
use Rattle.std.proofs.Common.{◌≡◌, ◌<◌, ◌≤◌, ◌+◌, ◌-◌, ◌*◌, ◌^◌, ℕ, List, [], ◌∷◌, length, drop, get_or, Some, None, ap, sym, ◌∙◌, arith}
use Rattle.std.specs.Prelude.{Option}
use Rattle.std.proofs.lemmas.Bool.Decides.{nat_tests}
use Rattle.std.proofs.lemmas.List.{at_drop_more, at_drop_all}
use Rattle.tlb_syntax.specs.Lexeme.{decimal_onto, number_of}

decimal_onto-ge : (n : ℕ) (ds : List ℕ) → n ≤ decimal_onto n ds
decimal_onto-ge n [] = omega arith
decimal_onto-ge n (d ∷ ds) = omega (arith, decimal_onto-ge (10 * n + (d - 48)) ds)

number_of-large : (ds : List ℕ) → 2 ^ 32 ≤ decimal_onto 0 ds → number_of ds ≡ None
number_of-large ds h = grind (arith, nat_tests, h)

number_of-small : (ds : List ℕ) → decimal_onto 0 ds < 2 ^ 32 → number_of ds ≡ Some (decimal_onto 0 ds)
number_of-small ds h = grind (arith, nat_tests, h)

pub next-digit : (ds : List ℕ) (i n : ℕ) → i < length ds
    → decimal_onto n (drop i ds) ≡ decimal_onto 0 ds
    → decimal_onto (10 * n + (get_or ds i 0 - 48)) (drop (i + 1) ds) ≡ decimal_onto 0 ds
next-digit ds i n h e = sym (at_drop_more (decimal_onto n) ds i 0 h) ∙ e

-- a digit with which the number is too large
pub too-large : (ds : List ℕ) (i n : ℕ) → i < length ds → decimal_onto n (drop i ds) ≡ decimal_onto 0 ds
    → 2 ^ 32 ≤ 10 * n + (get_or ds i 0 - 48) → number_of ds ≡ None
too-large ds i n h e large =
    number_of-large ds (omega (arith, large, next-digit ds i n h e, decimal_onto-ge (10 * n + (get_or ds i 0 - 48)) (drop (i + 1) ds)))

pub read-all : (ds : List ℕ) (i n : ℕ) → length ds ≤ i → n < 2 ^ 32 → decimal_onto n (drop i ds) ≡ decimal_onto 0 ds
    → number_of ds ≡ Some n
read-all ds i n h small e =
    let f : ℕ → Option ℕ = λ m. Some m in
    let is : decimal_onto 0 ds ≡ n = sym e ∙ at_drop_all (decimal_onto n) ds i h in
    number_of-small ds (omega (arith, is, small)) ∙ ap f is
