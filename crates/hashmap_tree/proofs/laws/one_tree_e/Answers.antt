use Rattle.hashmap_tree.specs.RootLaws.{root-once}
use Rattle.hashmap_tree.proofs.laws.one_tree_e.Goals as goal

pub returns : goal.returns
returns c = root-once
