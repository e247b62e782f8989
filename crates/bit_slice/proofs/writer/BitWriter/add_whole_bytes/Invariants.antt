use Rattle.std.proofs.Common.{◌≡◌, ◌+◌, ◌*◌, ◌≤◌, ◌++◌, take, length}
use Rattle.bit_slice.proofs.writer.BitWriter.add_whole_bytes.Given as goal

abbrev pub invariant-bytes : goal.invariant-bytes
invariant-bytes l = (l.self ≡ l.initial.self ++ take (l.i * 8) l.s) × (length l.initial.self + length l.s ≤ 1023)
