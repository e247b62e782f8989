use Rattle.hashmap_tree.specs.OutcomeLaws.{tree_or_fault}
use Rattle.hashmap_tree.proofs.laws.tree_or_fault.Goals as goal

pub returns : goal.returns
returns c = tree_or_fault
