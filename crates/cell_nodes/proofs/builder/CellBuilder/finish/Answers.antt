use Rattle.cell_nodes.specs.HeldLaws.{shallow-held}
use Rattle.cell_nodes.proofs.builder.CellBuilder.finish.Goals as goal

pub of_shallow-requires-clause-shallow : goal.of_shallow-requires-clause-shallow
of_shallow-requires-clause-shallow c = rw c.as_slice.ensures.value (shallow-held _ _ c.self.invariant.below)
