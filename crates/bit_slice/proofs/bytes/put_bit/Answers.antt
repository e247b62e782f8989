use Rattle.std.proofs.Common.{arith}
use Rattle.std.proofs.lemmas.Grind.{common_steps}
use Rattle.bit_slice.specs.BitLists.{put-bits_from}
use Rattle.bit_slice.proofs.bytes.put_bit.Goals as goal

pub returns-clause-bits : goal.returns-clause-bits
returns-clause-bits c =
    put-bits_from c.args.bytes.now.items c.args.at _ _ c.requires c.with_bit-byte.ensures.same
    (λ i l e. let h = c.with_bit-byte.ensures.other i l e in grind (arith, common_steps, h))
