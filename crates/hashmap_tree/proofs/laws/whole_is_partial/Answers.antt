use Rattle.hashmap_tree.specs.PlantedLaws.{whole-partial}
use Rattle.hashmap_tree.proofs.laws.whole_is_partial.Goals as goal

pub returns : goal.returns
returns c = whole-partial
