use Rattle.hashmap_tree.specs.OutcomeLaws.{no_halt_at_edge}
use Rattle.hashmap_tree.proofs.laws.no_halt_at_edge.Goals as goal

pub returns : goal.returns
returns c = no_halt_at_edge
