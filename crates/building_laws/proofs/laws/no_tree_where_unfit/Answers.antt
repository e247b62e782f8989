use Rattle.building_laws.specs.PlaceLaws.{no_tree_where_unfit}
use Rattle.building_laws.proofs.laws.no_tree_where_unfit.Goals as goal

pub returns : goal.returns
returns c = no_tree_where_unfit
