-- Decimal numbers without leading zeros.
use Rattle.std.proofs.Common.{◌≡◌, ◌<◌, ◌≤◌, ◌+◌, ◌*◌, ◌-◌, List, ℕ, [], ◌∷◌, length, drop, slice_index, get_or, suc, ap, refl, arith, ◌&&◌, not}
use Rattle.std.proofs.Math.Seq.{drop-cons}
use Rattle.std.specs.Prelude.{◌==◌}
use Rattle.std.specs.List.{list_all}
use Rattle.std.specs.Char.{is_ascii_digit}
use Rattle.tlb_syntax.specs.Lexeme.{decimal_onto}
use Rattle.kind_terms.specs.Words.{is_plain_number}

pub is_plain_number_of_more : (ds : List ℕ) → 1 < length ds
    → is_plain_number ds ≡ ((is_ascii_digit (slice_index ds 0) && not (slice_index ds 0 == 48)) && list_all is_ascii_digit (drop 1 ds))
is_plain_number_of_more [] h = absurd (omega arith)
is_plain_number_of_more (d ∷ []) h = absurd (omega arith)
is_plain_number_of_more (d ∷ e ∷ ds) h = refl

-- further digits make no number smaller
pub onto_grows : (n : ℕ) (ds : List ℕ) → n ≤ decimal_onto n ds
onto_grows n [] = omega arith
onto_grows n (d ∷ ds) = omega (arith, onto_grows (10 * n + (d - 48)) ds)

-- a prefix of the digits that is greater already
pub past : (ds : List ℕ) (i n m most : ℕ) → i < length ds → decimal_onto n (drop i ds) ≡ decimal_onto 0 ds
    → m ≡ 10 * n + (get_or ds i 0 - 48) → most < m → most < decimal_onto 0 ds
past ds i n m most h same is big =
    let grows = onto_grows (10 * n + (get_or ds i 0 - 48)) (drop (suc i) ds) in
    let next : decimal_onto n (drop i ds) ≡ decimal_onto (10 * n + (get_or ds i 0 - 48)) (drop (suc i) ds) = ap (decimal_onto n) (drop-cons ds i 0 h) in
    omega (arith, grows, next)
