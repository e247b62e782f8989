use Rattle.std.proofs.Common.{arith}
use Rattle.cell_nodes.proofs.Sums.{depth_step}
use Rattle.cell_nodes.proofs.children.depth_over.Goals as goal

pub children-preserved : goal.children-preserved
children-preserved c = grind (arith, depth_step c.args.level c.args.children.now c.children.child-index c.child-item.result c.children-test.true)
