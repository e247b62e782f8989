use Rattle.building_laws.specs.TreeOrPlaceLaws.{stops_where_unfit}
use Rattle.building_laws.proofs.laws.stops_where_unfit.Goals as goal

pub returns : goal.returns
returns c = stops_where_unfit
