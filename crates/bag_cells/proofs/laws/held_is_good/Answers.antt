use Rattle.bag_cells.proofs.GoodTrees.{held-good}
use Rattle.bag_cells.proofs.laws.held_is_good.Goals as goal

pub returns : goal.returns
returns c = held-good
