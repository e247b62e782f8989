use Rattle.proof_laws.specs.KnownExactLaws.{knows_exactly}
use Rattle.proof_laws.proofs.laws.knows_exactly.Goals as goal

pub returns : goal.returns
returns c = knows_exactly
