use Rattle.std.proofs.Common.{◌∙◌, sym}
use Rattle.cell_nodes.specs.Equations.{mask-tree_of}
use Rattle.cell_nodes.proofs.cell.Cell.mask_of.Goals as goal

pub returns-clause-value : goal.returns-clause-value
returns-clause-value c = c.node_mask.ensures.value ∙ sym (mask-tree_of c.args.kind c.args.bits c.args.children.now)
