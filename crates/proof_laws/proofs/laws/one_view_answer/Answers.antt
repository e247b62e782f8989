use Rattle.proof_laws.specs.ViewingLaws.{one_view_answer}
use Rattle.proof_laws.proofs.laws.one_view_answer.Goals as goal

pub returns : goal.returns
returns c = one_view_answer
