use Rattle.pruning_laws.specs.CommutesLaws.{thinned}
use Rattle.pruning_laws.proofs.laws.pruned_tree_reads.Goals as goal

pub returns : goal.returns
returns c = thinned
