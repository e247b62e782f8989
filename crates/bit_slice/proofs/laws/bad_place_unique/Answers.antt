use Rattle.bit_slice.specs.HexTexts.{bad-only, bad-unique}
use Rattle.bit_slice.proofs.laws.bad_place_unique.Goals as goal

pub returns-clause-good : goal.returns-clause-good
returns-clause-good c = λ text bits place h b. bad-only text bits place h b

pub returns-clause-unique : goal.returns-clause-unique
returns-clause-unique c = bad-unique
