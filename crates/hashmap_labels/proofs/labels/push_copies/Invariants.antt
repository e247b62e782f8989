use Rattle.std.proofs.Common.{◌≡◌, ◌++◌, replicate}
use Rattle.bit_slice.specs.Bits.{bit_number}
use Rattle.hashmap_labels.proofs.labels.push_copies.Given as goal

abbrev pub invariant-copies : goal.invariant-copies
invariant-copies l = l.writer ≡ l.fn.writer ++ replicate l.i (bit_number l.bit)
