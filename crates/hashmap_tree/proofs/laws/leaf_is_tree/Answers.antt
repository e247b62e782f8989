use Rattle.hashmap_tree.specs.ThenLaws.{leaf_is_tree}
use Rattle.hashmap_tree.proofs.laws.leaf_is_tree.Goals as goal

pub returns : goal.returns
returns c = leaf_is_tree
