use Rattle.bag_cells.proofs.Sized.{held_small}
use Rattle.bag_cells.proofs.laws.held_is_small.Goals as goal

pub returns : goal.returns
returns c = held_small
