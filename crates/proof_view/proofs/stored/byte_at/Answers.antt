use Rattle.std.proofs.Common.{◌∙◌}
use Rattle.proof_view.proofs.Bytes.{byte_inside}
use Rattle.proof_view.proofs.stored.byte_at.Goals as goal

pub returns : goal.returns
returns c = c.completed_byte.ensures ∙ byte_inside c.args.bits.now c.args.i c.requires
