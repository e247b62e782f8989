use Rattle.std.proofs.Common.{◌≡◌, ◌++◌, ◌+◌, ◌*◌, ◌≤◌, take, length}
use Rattle.bit_slice.specs.HexLists.{digit_bits}
use Rattle.bit_slice.proofs.hex.push_digits.Given as goal

abbrev pub invariant-digits : goal.invariant-digits
invariant-digits l =
    (l.writer ≡ l.initial.writer ++ digit_bits (take l.digit-index l.digits)) × (length l.initial.writer + 4 * length l.digits ≤ 1023)
