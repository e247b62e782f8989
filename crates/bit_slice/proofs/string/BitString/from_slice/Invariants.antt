use Rattle.std.proofs.Common.{◌≡◌, map, length}
use Rattle.std.specs.List.{range_with_len}
use Rattle.bit_slice.specs.Bits.{completed_byte}
use Rattle.bit_slice.proofs.string.BitString.from_slice.Given as goal

abbrev pub invariant-bytes : goal.invariant-bytes
invariant-bytes l = (l.bytes.items ≡ map (completed_byte l.s) (range_with_len 0 l.i)) × (length l.bytes.items ≡ l.i)
