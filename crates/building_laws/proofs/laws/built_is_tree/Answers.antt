use Rattle.building_laws.specs.RoundLaws.{built_is_tree}
use Rattle.building_laws.proofs.laws.built_is_tree.Goals as goal

pub returns : goal.returns
returns c = built_is_tree
