use Rattle.bag_cells.proofs.Answered.{answers_tree}
use Rattle.bag_cells.proofs.Sized.{answers_small}
use Rattle.bag_cells.proofs.read_bag.Goals as goal

pub returns-clause-tree : goal.returns-clause-tree
returns-clause-tree c = answers_tree c.args.file.now c.read.result c.read.ensures

pub returns-clause-small : goal.returns-clause-small
returns-clause-small c = answers_small c.args.file.now c.read.result c.read.ensures
