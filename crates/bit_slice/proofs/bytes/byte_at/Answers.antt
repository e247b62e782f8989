use Rattle.std.proofs.Common.{◌+◌, ◌/◌, ◌<◌, ◌^◌, arith, slice_index}
use Rattle.bit_slice.proofs.ByteBits.{byte-places, aligned, shifted, shifted-lt}
use Rattle.bit_slice.proofs.bytes.byte_at.Goals as goal

pub returns-then-shift-eq0 : goal.returns-then-shift-eq0
returns-then-shift-eq0 c =
    byte-places _ c.args.bytes.now c.args.at
    (omega (arith, c.type_inv.bytes (c.args.at / 8)))
    (λ k j e. aligned c.args.bytes.now c.args.at k j c.if-shift-eq0.true e)

pub returns : goal.returns
returns c =
    let h : slice_index c.args.bytes.now (c.args.at / 8 + 1) < 2 ^ 8 = omega (arith, c.type_inv.bytes (c.args.at / 8 + 1)) in
    byte-places _ c.args.bytes.now c.args.at
    (shifted-lt _ _ _ h)
    (λ k j e. shifted c.args.bytes.now c.args.at k j h e)
