use Rattle.hashmap_tree.specs.PlantedLaws.{entries-have_tree}
use Rattle.hashmap_tree.proofs.laws.entries_have_tree.Goals as goal

pub returns : goal.returns
returns c = entries-have_tree
