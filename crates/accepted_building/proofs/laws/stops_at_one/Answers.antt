use Rattle.accepted_building.specs.BuildableLaws.{stops_at_one}
use Rattle.accepted_building.proofs.laws.stops_at_one.Goals as goal

pub returns : goal.returns
returns c = λ mode req s ok t v.
    stops_at_one c.stops_where_unfit.ensures c.one_place.ensures c.no_tree_where_unfit.ensures mode req _
    (c.accepted_is_buildable.ensures s ok) t v
