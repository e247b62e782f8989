use Rattle.std.proofs.Common.{◌≡◌, ◌+◌, ◌≤◌, ◌++◌, length}
use Rattle.bit_slice.specs.Bits.{spelled}
use Rattle.bit_slice.proofs.writer.BitWriter.add_number.Given as goal

abbrev pub invariant-bits : goal.invariant-bits
invariant-bits l = (l.self ++ spelled l.i l.value ≡ l.initial.self ++ spelled l.n l.value) × (length l.self + l.i ≤ 1023)
