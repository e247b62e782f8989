use Rattle.std.proofs.Common.{arith}
use Rattle.cell_nodes.specs.HeldLaws.{room-kept}
use Rattle.cell_nodes.proofs.builder.CellBuilder.push_ref.Goals as goal

pub invariant_of-self : goal.invariant_of-self
invariant_of-self c =
    room-kept _ _ c.args.child _ _ c.self.invariant (omega arith) (omega (arith, c.deepest.ensures.value, c.deepest.ensures.bound))
    c.push_cell.ensures.items c.push_cell.ensures.room
