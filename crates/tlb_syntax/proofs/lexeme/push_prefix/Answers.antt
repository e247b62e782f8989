use Rattle.std.proofs.Common.{◌/◌, ap, length, take, arith}
use Rattle.std.specs.List.{flat_map}
use Rattle.std.proofs.lemmas.List.{length-append, length-take-le}
use Rattle.tlb_syntax.specs.Lexeme.{hex_bits}
use Rattle.tlb_syntax.proofs.TagBits.{prefix-digits, next-is_digit, part-fits, prefix-whole, prefix-part, length-hex_bits}
use Rattle.tlb_syntax.proofs.lexeme.push_prefix.Goals as goal

pub push_digits-requires-clause-room : goal.push_digits-requires-clause-room
push_digits-requires-clause-room c = omega (arith, c.requires.room, c.requires.within, length-take-le (c.args.count / 4) c.args.digits.now (omega (arith, c.requires.within)))

pub push_digits-requires-clause-digits : goal.push_digits-requires-clause-digits
push_digits-requires-clause-digits c = prefix-digits c.args.digits.now c.args.count c.requires.digits

pub hex_value-requires : goal.hex_value-requires
hex_value-requires c = next-is_digit c.args.digits.now c.args.count c.requires.within c.if-part-gt0.true c.requires.digits

pub push_small-requires-clause-fits : goal.push_small-requires-clause-fits
push_small-requires-clause-fits c = part-fits c.hex_value.result _ c.hex_value.ensures.small (omega arith)

pub push_small-requires-clause-room : goal.push_small-requires-clause-room
push_small-requires-clause-room c =
    let whole = take (c.args.count / 4) c.args.digits.now in
    omega (arith, c.requires.room, c.requires.within, ap length c.push_digits.ensures, length-append c.args.bits.now (flat_map hex_bits whole), length-hex_bits whole, length-take-le (c.args.count / 4) c.args.digits.now (omega (arith, c.requires.within)))

pub returns-then-part-gt0 : goal.returns-then-part-gt0
returns-then-part-gt0 c =
    prefix-part c.args.bits.now c.push_digits.new.bits c.push_small.new.bits c.args.digits.now c.args.count c.hex_value.result
    c.requires.within c.if-part-gt0.true c.hex_value.ensures.value c.hex_value.ensures.small c.push_digits.ensures c.push_small.ensures

pub returns-else-part-gt0 : goal.returns-else-part-gt0
returns-else-part-gt0 c =
    prefix-whole c.args.bits.now c.push_digits.new.bits c.args.digits.now c.args.count c.requires.within c.if-part-gt0.false c.push_digits.ensures
