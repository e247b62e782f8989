use Rattle.std.proofs.Common.{◌≡◌, map}
use Rattle.std.specs.List.{range_with_len}
use Rattle.bit_slice.specs.Bits.{hex_digit}
use Rattle.bit_slice.specs.HexLists.{completed_digit}
use Rattle.bit_slice.proofs.slice.BitSlice.hex_text.Given as goal

abbrev pub invariant-digits : goal.invariant-digits
invariant-digits l = l.text.items ≡ map (λ k. hex_digit (completed_digit l.self k)) (range_with_len 0 l.i)
