use Rattle.bit_slice.specs.SignedLists.{signed_number_of-spelled}
use Rattle.bit_slice.proofs.laws.signed_number_of_spelled.Goals as goal

pub returns : goal.returns
returns c = signed_number_of-spelled
