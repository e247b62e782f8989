use Rattle.proof_laws.specs.OneLaidLaws.{one_laid_reading}
use Rattle.proof_laws.proofs.laws.one_laid.Goals as goal

pub returns : goal.returns
returns c = one_laid_reading
