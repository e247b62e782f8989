-- The names by which unnamed fields and constructors are shown.
use Rattle.std.proofs.Common.{◌≡◌, ◌<◌, ◌^◌, ℕ, List, [], ◌∷◌, ◌++◌, get_or, arith, rules, true}
use Rattle.std.specs.Prelude.{codes, decimal}
use Rattle.std.specs.List.{list_all}
use Rattle.std.specs.Char.{is_ascii_digit}
use Rattle.std.proofs.lemmas.Str.Parse.{IsNumeralModel, numerals_by_fold}
use Rattle.std.proofs.lemmas.Fmt.{digits_decimal, first_decimal}
use Rattle.bit_slice.specs.Names.{is_count, is_name}
use Rattle.tlb_syntax.specs.Lexeme.{decimal_onto}

own : IsNumeralModel (λ ds. list_all is_ascii_digit ds ≡ true) (decimal_onto 0)
own = numerals_by_fold _ (search rules) decimal_onto (search rules)

count-of_digits : (ds : List ℕ) → list_all is_ascii_digit ds ≡ true → 48 < get_or ds 0 0 → is_count ds ≡ true
count-of_digits [] all h = absurd (omega arith)
count-of_digits (d ∷ ds) all h = grind (arith, all, h)

-- `_` and a number from 1 on
pub is_numbered_name : (n : ℕ) → 0 < n → n < 2 ^ 64 → is_name (codes "_" ++ decimal n) ≡ true
is_numbered_name n h small = count-of_digits (decimal n) (digits_decimal own n small) (first_decimal n h small)
