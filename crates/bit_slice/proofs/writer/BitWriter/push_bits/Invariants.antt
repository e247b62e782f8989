use Rattle.std.proofs.Common.{◌≡◌, ◌+◌, ◌≤◌, ◌++◌, take, length}
use Rattle.bit_slice.proofs.writer.BitWriter.push_bits.Given as goal

abbrev pub invariant-bits : goal.invariant-bits
invariant-bits l = (l.self ≡ l.fn.self ++ take l.i l.s) × (length l.fn.self + length l.s ≤ 1023)
