-- Names by their first byte.
use Rattle.std.proofs.Common.{◌≡◌, ◌<◌, List, ℕ, [], ◌∷◌, length, drop, slice_index, refl, arith, ◌&&◌, ◌||◌, not}
use Rattle.std.specs.Prelude.{◌==◌}
use Rattle.std.specs.List.{list_all}
use Rattle.std.specs.Char.{is_ascii_alphabetic, is_ascii_digit}
use Rattle.bit_slice.specs.Names.{is_name, is_name_byte, is_count}

pub is_count-some : (ds : List ℕ) → 0 < length ds
    → is_count ds ≡ ((is_ascii_digit (slice_index ds 0) && not (slice_index ds 0 == 48)) && list_all is_ascii_digit (drop 1 ds))
is_count-some [] h = absurd (omega arith)
is_count-some (d ∷ ds) h = refl

pub is_name-some : (bs : List ℕ) → 0 < length bs
    → is_name bs ≡ ((is_ascii_alphabetic (slice_index bs 0) && list_all is_name_byte (drop 1 bs)) || ((slice_index bs 0 == 95) && is_count (drop 1 bs)))
is_name-some [] h = absurd (omega arith)
is_name-some (b ∷ bs) h = refl

pub ruleset names = (is_count-some, is_name-some)
