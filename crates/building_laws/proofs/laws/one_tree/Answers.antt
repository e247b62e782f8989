use Rattle.building_laws.specs.OneTreeLaws.{one_tree}
use Rattle.building_laws.proofs.laws.one_tree.Goals as goal

pub returns : goal.returns
returns c = one_tree
