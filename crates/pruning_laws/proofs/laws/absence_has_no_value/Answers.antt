use Rattle.pruning_laws.specs.AbsenceLaws.{no_value}
use Rattle.pruning_laws.proofs.laws.absence_has_no_value.Goals as goal

pub returns : goal.returns
returns c = no_value
