use Rattle.proof_laws.specs.ProvingLaws.{one_prove_answer}
use Rattle.proof_laws.proofs.laws.one_prove_answer.Goals as goal

pub returns : goal.returns
returns c = one_prove_answer
