use Rattle.bag_cells.proofs.Widths.{one_le-width, width-fits, width-bound}
use Rattle.bag_cells.proofs.laws.width_is_least.Goals as goal

pub returns : goal.returns
returns c = record { some = one_le-width; fits = width-fits; least = width-bound }
