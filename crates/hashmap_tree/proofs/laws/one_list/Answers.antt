use Rattle.hashmap_tree.specs.OnceLaws.{entries_once}
use Rattle.hashmap_tree.proofs.laws.one_list.Goals as goal

pub returns : goal.returns
returns c = entries_once
