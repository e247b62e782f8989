use Rattle.pruning_laws.specs.AbsenceLaws.{named_known}
use Rattle.pruning_laws.proofs.laws.named_is_known.Goals as goal

pub returns : goal.returns
returns c = named_known
