use Rattle.building_laws.specs.PlaceLaws.{one_place}
use Rattle.building_laws.proofs.laws.one_place.Goals as goal

pub returns : goal.returns
returns c = one_place
