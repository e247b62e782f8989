use Rattle.proof_laws.specs.CellLaws.{pruned_is_low}
use Rattle.proof_laws.proofs.laws.pruned_is_low.Goals as goal

pub returns : goal.returns
returns c = pruned_is_low
