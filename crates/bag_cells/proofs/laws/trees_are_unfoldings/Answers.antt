use Rattle.bag_cells.proofs.Unfolding.{made_unfolds}
use Rattle.bag_cells.proofs.laws.trees_are_unfoldings.Goals as goal

pub returns : goal.returns
returns c = made_unfolds
