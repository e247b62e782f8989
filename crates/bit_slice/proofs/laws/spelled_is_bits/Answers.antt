use Rattle.bit_slice.specs.BitLists.{length-spelled, AreBits-spelled}
use Rattle.bit_slice.proofs.laws.spelled_is_bits.Goals as goal

pub returns-clause-length : goal.returns-clause-length
returns-clause-length c = length-spelled

pub returns-clause-bits : goal.returns-clause-bits
returns-clause-bits c = AreBits-spelled
