use Rattle.pruning_laws.specs.CommutesLaws.{commutes}
use Rattle.pruning_laws.proofs.laws.pruning_commutes.Goals as goal

pub returns : goal.returns
returns c = commutes
