use Rattle.building_laws.specs.TreeOrPlaceLaws.{tree_or_place}
use Rattle.building_laws.proofs.laws.tree_or_place.Goals as goal

pub returns : goal.returns
returns c = tree_or_place
