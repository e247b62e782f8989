use Rattle.proof_laws.specs.ThenViewLaws.{prove_then_view}
use Rattle.proof_laws.proofs.laws.prove_then_view.Goals as goal

pub returns : goal.returns
returns c = prove_then_view
