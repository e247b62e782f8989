use Rattle.std.proofs.Common.{arith}
use Rattle.cell_nodes.proofs.Sums.{unfolded_step}
use Rattle.cell_nodes.proofs.children.unfolded_over.Goals as goal

pub children-preserved : goal.children-preserved
children-preserved c = grind (arith, unfolded_step c.args.children.now c.children.child-index c.child-item.result c.children-test.true)
