use Rattle.hashmap_tree.specs.OrderLaws.{has_tree}
use Rattle.hashmap_tree.proofs.laws.has_tree.Goals as goal

pub returns : goal.returns
returns c = has_tree
