use Rattle.std.proofs.Common.{w8}
use Rattle.std.proofs.lemmas.Nat.Bits.{bit_at_set_same, bit_at_set_other, bit_at_clear_same, bit_at_clear_other}
use Rattle.bit_slice.proofs.bytes.with_bit.Goals as goal

pub returns-then-bit-clause-same : goal.returns-then-bit-clause-same
returns-then-bit-clause-same c = rw c.if-bit.true (bit_at_set_same w8 c.args.byte c.args.place c.requires)

pub returns-then-bit-clause-other : goal.returns-then-bit-clause-other
returns-then-bit-clause-other c i l e = bit_at_set_other w8 c.args.byte c.args.place c.requires i e

pub returns-clause-same : goal.returns-clause-same
returns-clause-same c = rw c.if-bit.false (bit_at_clear_same w8 c.args.byte c.args.place c.requires)

pub returns-clause-other : goal.returns-clause-other
returns-clause-other c i l e = bit_at_clear_other w8 c.args.byte c.args.place c.requires i l e
