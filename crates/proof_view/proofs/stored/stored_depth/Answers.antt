use Rattle.std.proofs.Common.{◌∙◌, arith}
use Rattle.proof_view.proofs.Bytes.{depth_bytes}
use Rattle.proof_view.proofs.stored.stored_depth.Goals as goal

pub returns : goal.returns
returns c =
    c.from_be_bytes.ensures
    ∙ rw (c.byte_at.ensures, c.byte_at-2.ensures)
    (depth_bytes c.args.bits.now 33 (omega (arith, c.requires)))
