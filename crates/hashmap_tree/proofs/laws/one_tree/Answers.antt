use Rattle.hashmap_tree.specs.OnceLaws.{tree_once}
use Rattle.hashmap_tree.proofs.laws.one_tree.Goals as goal

pub returns : goal.returns
returns c = tree_once
