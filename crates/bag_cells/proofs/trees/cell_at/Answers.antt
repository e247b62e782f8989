use Rattle.std.proofs.Common.{arith}
use Rattle.bag_cells.proofs.Laid.{cell_size-parts}
use Rattle.bag_cells.proofs.trees.cell_at.Goals as goal

pub bits_at-requires-clause-within : goal.bits_at-requires-clause-within
bits_at-requires-clause-within c = omega (arith, cell_size-parts c.args.raw.now c.args.place)

pub kind_at-requires-clause-place : goal.kind_at-requires-clause-place
kind_at-requires-clause-place c = omega (arith, cell_size-parts c.args.raw.now c.args.place)

pub bounds-raw-place : goal.bounds-raw-place
bounds-raw-place c = omega (arith, cell_size-parts c.args.raw.now c.args.place)
