use Rattle.hashmap_tree.specs.ThenLaws.{fork_is_tree}
use Rattle.hashmap_tree.proofs.laws.fork_is_tree.Goals as goal

pub returns : goal.returns
returns c = fork_is_tree
