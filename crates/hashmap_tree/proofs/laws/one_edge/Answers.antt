use Rattle.hashmap_tree.specs.OutcomeLaws.{one_edge}
use Rattle.hashmap_tree.proofs.laws.one_edge.Goals as goal

pub returns : goal.returns
returns c = one_edge
