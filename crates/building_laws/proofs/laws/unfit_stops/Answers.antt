use Rattle.building_laws.specs.PlaceLaws.{unfit_stops}
use Rattle.building_laws.proofs.laws.unfit_stops.Goals as goal

pub returns : goal.returns
returns c = unfit_stops
