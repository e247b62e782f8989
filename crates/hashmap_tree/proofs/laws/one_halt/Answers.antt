use Rattle.hashmap_tree.specs.OutcomeLaws.{one_halt}
use Rattle.hashmap_tree.proofs.laws.one_halt.Goals as goal

pub returns : goal.returns
returns c = one_halt
