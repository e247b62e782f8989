use Rattle.bag_cells.proofs.Holds.{bag-holds}
use Rattle.bag_cells.proofs.laws.written_bag_holds.Goals as goal

pub returns : goal.returns
returns c = bag-holds
