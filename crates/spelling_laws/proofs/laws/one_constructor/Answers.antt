use Rattle.spelling_laws.specs.EnterLaws.{one_constructor}
use Rattle.spelling_laws.proofs.laws.one_constructor.Goals as goal

pub returns : goal.returns
returns c = one_constructor
