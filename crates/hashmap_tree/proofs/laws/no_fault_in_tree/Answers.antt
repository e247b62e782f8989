use Rattle.hashmap_tree.specs.OutcomeLaws.{no_fault_in_tree}
use Rattle.hashmap_tree.proofs.laws.no_fault_in_tree.Goals as goal

pub returns : goal.returns
returns c = no_fault_in_tree
