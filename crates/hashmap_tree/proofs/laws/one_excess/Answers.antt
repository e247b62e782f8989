use Rattle.hashmap_tree.specs.ExceedsLaws.{excess-once}
use Rattle.hashmap_tree.proofs.laws.one_excess.Goals as goal

pub returns : goal.returns
returns c = excess-once
