use Rattle.cell_nodes.proofs.Known.{depth-bound}
use Rattle.cell_nodes.proofs.cell.Cell.depth.Goals as goal

pub returns-clause-bound : goal.returns-clause-bound
returns-clause-bound c = depth-bound c.args.self.now c.args.i _ c.good.ensures c.requires c.mark.ensures
