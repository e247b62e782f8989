use Rattle.std.proofs.Common.{◌≡◌, ◌∙◌, ap, arith}
use Rattle.cell_nodes.specs.Layout.{pair_count, stored_mask}
use Rattle.cell_nodes.specs.Levels.{set_bits}
use Rattle.cell_nodes.proofs.Bytes.{pair_depth-bytes}
use Rattle.cell_nodes.proofs.layouts.stored_depth.Goals as goal

pub returns : goal.returns
returns c =
    let e : c.set_bits.result ≡ pair_count (stored_mask c.args.bits.now) = c.set_bits.ensures.value ∙ ap (set_bits 3) c.stored_mask.ensures in
    c.from_be_bytes.ensures
    ∙ rw (c.byte_at.ensures, c.byte_at-2.ensures)
    (pair_depth-bytes c.args.bits.now c.args.j _ (omega arith) (omega (arith, c.requires.within)))
