use Rattle.accepted_building.specs.BuildableLaws.{accepted_is_buildable}
use Rattle.accepted_building.proofs.laws.accepted_is_buildable.Goals as goal

pub returns : goal.returns
returns c = accepted_is_buildable c.accepted_is_acceptable.ensures c.kept_stays_within.ensures
