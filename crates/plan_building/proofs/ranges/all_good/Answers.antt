use Rattle.std.proofs.Common.{arith}
use Rattle.cell_nodes.specs.Good.{AllGood, more, none}
use Rattle.plan_building.proofs.Ranging.{none_left, one_more}
use Rattle.plan_building.proofs.ranges.all_good.Goals as goal

pub loop-cell-preserved : goal.loop-cell-preserved
loop-cell-preserved c =
    one_more AllGood c.args.cells.now c.loop-cell.cell-index c.cell-item.result c.loop-cell-test.true c.cell-item.is
    (λ rest. more _ _ c.good.ensures rest) c.loop-cell.invariant

pub returns : goal.returns
returns c = none_left AllGood c.args.cells.now c.loop-cell.cell-index (omega arith) none c.loop-cell.invariant
