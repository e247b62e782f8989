use Rattle.spelling_laws.specs.MarkLaws.{has_marks}
use Rattle.spelling_laws.proofs.laws.has_marks.Goals as goal

pub returns : goal.returns
returns c = has_marks
