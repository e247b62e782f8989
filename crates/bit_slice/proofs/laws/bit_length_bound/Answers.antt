use Rattle.bit_slice.specs.BitLengths.{bit_length-zero, bit_length-below, bit_length-above}
use Rattle.bit_slice.proofs.laws.bit_length_bound.Goals as goal

pub returns-clause-zero : goal.returns-clause-zero
returns-clause-zero c = bit_length-zero

pub returns-clause-below : goal.returns-clause-below
returns-clause-below c = bit_length-below

pub returns-clause-above : goal.returns-clause-above
returns-clause-above c = bit_length-above
