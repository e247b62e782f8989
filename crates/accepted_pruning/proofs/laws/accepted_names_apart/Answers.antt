use Rattle.accepted_pruning.specs.ApartLaws.{accepted_apart}
use Rattle.accepted_pruning.proofs.laws.accepted_names_apart.Goals as goal

pub returns : goal.returns
returns c = accepted_apart c.kept_stays_within.ensures
