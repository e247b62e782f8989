use Rattle.std.proofs.Common.{◌-◌, ◌++◌, arith, ap, ◌∙◌}
use Rattle.std.proofs.lemmas.Grind.{common_steps}
use Rattle.bit_slice.specs.Bits.{spelled}
use Rattle.bit_slice.specs.BitLists.{spelled-all, spelled-pushed, shr_bit}
use Rattle.bit_slice.proofs.writer.BitWriter.add_number.Goals as goal

pub returns : goal.returns
returns c = spelled-all _ _ c.bits.i c.args.value c.bits-test.false c.bits.invariant.0

pub bits-preserved : goal.bits-preserved
bits-preserved c =
    let pushed = spelled-pushed c.bits.self _ c.bits.i c.args.value c.bits-test.true (shr_bit c.args.value (c.bits.i - 1)) in
    (ap (λ xs. xs ++ spelled (c.bits.i - 1) c.args.value) c.push.ensures ∙ pushed ∙ c.bits.invariant.0, grind (arith, common_steps))
