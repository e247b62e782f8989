use Rattle.bit_slice.proofs.HexDigits.{high-digit, low-digit}
use Rattle.bit_slice.proofs.slice.BitSlice.completed_digit.Goals as goal

pub returns-then-i-eq0-clause-number : goal.returns-then-i-eq0-clause-number
returns-then-i-eq0-clause-number c =
    high-digit c.args.self.now c.args.i c.completed_byte-byte.result c.requires.bits c.if-i-eq0.true c.completed_byte-byte.type_inv c.completed_byte-byte.ensures

pub returns-else-i-eq0-clause-number : goal.returns-else-i-eq0-clause-number
returns-else-i-eq0-clause-number c =
    low-digit c.args.self.now c.args.i c.completed_byte-byte.result c.requires.bits c.if-i-eq0.false c.completed_byte-byte.ensures
