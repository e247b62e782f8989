use Rattle.hashmap_tree.specs.RootLaws.{list-once}
use Rattle.hashmap_tree.proofs.laws.one_list_e.Goals as goal

pub returns : goal.returns
returns c = list-once
