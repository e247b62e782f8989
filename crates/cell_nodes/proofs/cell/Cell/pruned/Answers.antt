use Rattle.std.proofs.Common.{arith}
use Rattle.cell_nodes.specs.ConstructedLaws.{pruned-layout, pruned-shallow, one-pair}
use Rattle.cell_nodes.proofs.cell.Cell.pruned.Goals as goal

pub of_shallow-requires-clause-layout : goal.of_shallow-requires-clause-layout
of_shallow-requires-clause-layout c =
    rw c.in_ok-bits.ensures (pruned-layout 1 _ (one-pair c.args.hash.now c.args.depth (omega arith) (omega arith)))

pub of_shallow-requires-clause-shallow : goal.of_shallow-requires-clause-shallow
of_shallow-requires-clause-shallow c =
    rw c.in_ok-bits.ensures (pruned-shallow 1 _ (one-pair c.args.hash.now c.args.depth (omega arith) (omega arith)))
