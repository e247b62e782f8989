use Rattle.cell_nodes.proofs.Known.{hidden-kept}
use Rattle.cell_nodes.proofs.cell.Cell.hidden_part.Goals as goal

pub returns : goal.returns
returns c =
    hidden-kept _ _ _ _ _ c.deref.ensures c.deref-2.ensures c.deref-3.ensures c.self.invariant c.self.view_is c.requires c.if-deref-ne1.false
