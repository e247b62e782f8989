use Rattle.std.proofs.Common.{◌≡◌, ℕ, ◌<◌, true, slice_index}
use Rattle.bit_slice.specs.HexLists.{is_hex_digit}
use Rattle.bit_slice.proofs.hex.digit_count.Given as goal

abbrev pub invariant-bytes : goal.invariant-bytes
invariant-bytes l = (k : ℕ) → k < l.i → is_hex_digit (slice_index l.text k) ≡ true
