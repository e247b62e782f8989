use Rattle.bit_slice.specs.BitLists.{number_of-bound}
use Rattle.bit_slice.proofs.laws.number_of_bound.Goals as goal

pub returns : goal.returns
returns c = number_of-bound
