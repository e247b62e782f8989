use Rattle.bit_slice.specs.BitLists.{spelled-number_of}
use Rattle.bit_slice.proofs.laws.spelled_number_of.Goals as goal

pub returns : goal.returns
returns c = spelled-number_of
