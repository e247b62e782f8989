use Rattle.hashmap_tree.specs.PlacedLaws.{tree-placed}
use Rattle.hashmap_tree.proofs.laws.tree_is_placed.Goals as goal

pub returns : goal.returns
returns c = tree-placed
