use Rattle.hashmap_tree.specs.MergedLaws.{order-merged}
use Rattle.hashmap_tree.proofs.laws.ordered_is_merged.Goals as goal

pub returns : goal.returns
returns c = order-merged
