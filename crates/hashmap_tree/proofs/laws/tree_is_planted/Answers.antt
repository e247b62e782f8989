use Rattle.hashmap_tree.specs.PlantedLaws.{tree-planted}
use Rattle.hashmap_tree.proofs.laws.tree_is_planted.Goals as goal

pub returns : goal.returns
returns c = tree-planted
