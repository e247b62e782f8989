use Rattle.bag_cells.proofs.Held.{holds_or_refused}
use Rattle.bag_cells.proofs.laws.at_least_one.Goals as goal

pub returns : goal.returns
returns c = holds_or_refused
