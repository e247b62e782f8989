use Rattle.std.proofs.Common.{◌∙◌}
use Rattle.cell_nodes.proofs.Bytes.{byte_inside}
use Rattle.cell_nodes.proofs.layouts.byte_at.Goals as goal

pub returns : goal.returns
returns c = c.completed_byte.ensures ∙ byte_inside c.args.bits.now c.args.i c.requires
