use Rattle.std.proofs.Common.{arith}
use Rattle.cell_nodes.specs.ConstructedLaws.{library-layout, library-shallow}
use Rattle.cell_nodes.proofs.cell.Cell.library.Goals as goal

pub of_shallow-requires-clause-layout : goal.of_shallow-requires-clause-layout
of_shallow-requires-clause-layout c = rw c.in_ok-bits.ensures (library-layout c.args.hash.now (omega arith))

pub of_shallow-requires-clause-shallow : goal.of_shallow-requires-clause-shallow
of_shallow-requires-clause-shallow c = rw c.in_ok-bits.ensures (library-shallow c.args.hash.now)
