use Rattle.std.proofs.Common.{drop}
use Rattle.cell_nodes.specs.Good.{AllGood}
use Rattle.plan_building.proofs.ranges.all_good.Given as goal

abbrev pub invariant-loop-cell : goal.invariant-loop-cell
invariant-loop-cell l = AllGood (drop l.cell-index l.cells) → AllGood l.cells
