use Rattle.hashmap_tree.specs.OutcomeLaws.{one_fault}
use Rattle.hashmap_tree.proofs.laws.one_fault.Goals as goal

pub returns : goal.returns
returns c = one_fault
