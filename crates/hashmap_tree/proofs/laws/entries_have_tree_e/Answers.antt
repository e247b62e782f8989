use Rattle.hashmap_tree.specs.RootLaws.{entries-rooted}
use Rattle.hashmap_tree.proofs.laws.entries_have_tree_e.Goals as goal

pub returns : goal.returns
returns c = entries-rooted
