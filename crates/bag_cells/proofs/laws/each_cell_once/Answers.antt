use Rattle.bag_cells.proofs.Holds.{cells-counted, cells-unfold}
use Rattle.bag_cells.proofs.laws.each_cell_once.Goals as goal

pub returns-clause-count : goal.returns-clause-count
returns-clause-count c = cells-counted

pub returns-clause-cells : goal.returns-clause-cells
returns-clause-cells c = cells-unfold
