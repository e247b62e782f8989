use Rattle.bit_slice.specs.BitLists.{number_of-spelled}
use Rattle.bit_slice.proofs.laws.number_of_spelled.Goals as goal

pub returns : goal.returns
returns c = number_of-spelled
