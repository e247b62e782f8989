use Rattle.std.proofs.Common.{arith}
use Rattle.value_parse.proofs.Depths.{depth_step}
use Rattle.value_parse.proofs.cells.depth_over.Goals as goal

pub refs-preserved : goal.refs-preserved
refs-preserved c = grind (arith, depth_step c.args.level c.args.refs.now c.refs.child-index c.child-item.result c.refs-test.true)
