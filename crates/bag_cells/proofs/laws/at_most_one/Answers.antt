use Rattle.bag_cells.specs.BagLaws.{holds_once}
use Rattle.bag_cells.proofs.laws.at_most_one.Goals as goal

pub returns-clause-tree : goal.returns-clause-tree
returns-clause-tree c = holds_once
