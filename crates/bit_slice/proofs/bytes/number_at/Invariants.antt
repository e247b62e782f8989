use Rattle.std.proofs.Common.{◌≡◌}
use Rattle.bit_slice.specs.Bits.{bits_from, number_of}
use Rattle.bit_slice.proofs.bytes.number_at.Given as goal

abbrev pub invariant-bits : goal.invariant-bits
invariant-bits l = l.value ≡ number_of (bits_from l.bytes l.start l.i)
