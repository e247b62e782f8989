use Rattle.building_laws.specs.OneTreeLaws.{tree_is_built}
use Rattle.building_laws.proofs.laws.tree_is_built.Goals as goal

pub returns : goal.returns
returns c = tree_is_built
