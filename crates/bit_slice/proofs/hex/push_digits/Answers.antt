use Rattle.std.proofs.Common.{◌∙◌, arith}
use Rattle.bit_slice.specs.HexTexts.{digit_bits-none, length-pushed, digit-pushed}
use Rattle.bit_slice.proofs.hex.push_digits.Goals as goal

pub digits-init : goal.digits-init
digits-init c = (digit_bits-none c.args.writer.now, c.requires.short)

pub add_number-requires-clause-room : goal.add_number-requires-clause-room
add_number-requires-clause-room c =
    let l = length-pushed c.digits.writer c.args.writer.now c.args.digits.now c.digits.digit-index c.digits.invariant.0 (omega arith) in
    omega arith

pub digits-preserved : goal.digits-preserved
digits-preserved c = (
  digit-pushed c.add_number.new.self c.digits.writer c.args.writer.now c.args.digits.now c.digits.digit-index
      c.from.result c.add_number.ensures (c.from.ensures ∙ c.digit_number.ensures.number) c.digits.invariant.0 (omega arith),
  c.requires.short,
)
