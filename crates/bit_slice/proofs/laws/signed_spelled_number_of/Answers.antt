use Rattle.bit_slice.specs.SignedLists.{InSignedRange-signed_number_of, signed_spelled-signed_number_of}
use Rattle.bit_slice.proofs.laws.signed_spelled_number_of.Goals as goal

pub returns-clause-range : goal.returns-clause-range
returns-clause-range c = InSignedRange-signed_number_of

pub returns-clause-bits : goal.returns-clause-bits
returns-clause-bits c = signed_spelled-signed_number_of
