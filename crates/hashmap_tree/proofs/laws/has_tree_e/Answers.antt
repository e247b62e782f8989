use Rattle.hashmap_tree.specs.RootLaws.{pairs-rooted}
use Rattle.hashmap_tree.proofs.laws.has_tree_e.Goals as goal

pub returns : goal.returns
returns c = pairs-rooted
