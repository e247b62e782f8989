use Rattle.std.proofs.Common.{◌≡◌, ◌++◌, map}
use Rattle.std.specs.List.{range_with_len}
use Rattle.bit_slice.specs.Bits.{completed_byte}
use Rattle.bag_cells.proofs.write.push_completed.Given as goal

abbrev pub invariant-bytes : goal.invariant-bytes
invariant-bytes l = l.bytes.items ≡ l.initial.bytes.items ++ map (completed_byte l.bits) (range_with_len 0 l.i)
