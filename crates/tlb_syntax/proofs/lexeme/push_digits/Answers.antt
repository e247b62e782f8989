use Rattle.std.proofs.Common.{◌∙◌, ap, ◌++◌}
use Rattle.bit_slice.specs.Bits.{spelled}
use Rattle.tlb_syntax.proofs.TagBits.{bits-more, room-for_digit}
use Rattle.tlb_syntax.proofs.lexeme.push_digits.Goals as goal

pub push_small-requires-clause-room : goal.push_small-requires-clause-room
push_small-requires-clause-room c =
    room-for_digit c.args.bits.now c.digits.bits c.args.digits.now c.digits.digit-index c.digits-test.true c.requires.room c.digits.invariant

pub digits-preserved : goal.digits-preserved
digits-preserved c =
    bits-more c.args.bits.now c.digits.bits c.push_small.new.bits c.args.digits.now c.digits.digit-index c.digits-test.true c.requires.digits
    c.digits.invariant (c.push_small.ensures ∙ ap (λ v. c.digits.bits ++ spelled 4 v) c.hex_value.ensures.value)
