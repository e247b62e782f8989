use Rattle.proof_laws.specs.LaidReadsLaws.{laid_is_read}
use Rattle.proof_laws.proofs.laws.laid_is_read.Goals as goal

pub returns : goal.returns
returns c = laid_is_read
