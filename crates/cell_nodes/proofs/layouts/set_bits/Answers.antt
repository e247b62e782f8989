use Rattle.std.proofs.Common.{arith}
use Rattle.cell_nodes.specs.LevelsLaws.{set_bits-zero, set_bits-more, set_bits-le}
use Rattle.cell_nodes.proofs.layouts.set_bits.Goals as goal

pub levels-init : goal.levels-init
levels-init c = omega (arith, set_bits-zero c.args.mask)

pub overflow_add-count : goal.overflow_add-count
overflow_add-count c = omega (arith, set_bits-le c.levels.i c.args.mask)

pub levels-preserved : goal.levels-preserved
levels-preserved c = omega (arith, set_bits-more c.levels.i c.args.mask)

pub returns-clause-bound : goal.returns-clause-bound
returns-clause-bound c = grind (arith, set_bits-le c.args.level c.args.mask)
