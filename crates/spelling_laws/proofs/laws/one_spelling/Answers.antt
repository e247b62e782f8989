use Rattle.spelling_laws.specs.OutcomeLaws.{one_spelling}
use Rattle.spelling_laws.proofs.laws.one_spelling.Goals as goal

pub returns : goal.returns
returns c = one_spelling
