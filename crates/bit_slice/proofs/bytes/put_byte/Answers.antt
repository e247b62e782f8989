use Rattle.std.proofs.Common.{◌≡◌, ◌/◌, arith, slice_index}
use Rattle.std.proofs.lemmas.List.{get_or_read}
use Rattle.bit_slice.proofs.ByteBits.{put-aligned, put-shifted}
use Rattle.bit_slice.proofs.bytes.put_byte.Goals as goal

pub returns-then-shift-eq0-clause-bits : goal.returns-then-shift-eq0-clause-bits
returns-then-shift-eq0-clause-bits c = put-aligned c.args.bytes.now.items c.args.at c.args.byte c.requires c.if-shift-eq0.true

pub returns-clause-bits : goal.returns-clause-bits
returns-clause-bits c =
    let read : c.index.result.now ≡ slice_index c.args.bytes.now.items (c.args.at / 8) =
    get_or_read c.args.bytes.now.items (c.args.at / 8) c.index.result.now (omega arith) c.index.ensures 0 in
    rw read (put-shifted c.args.bytes.now.items c.args.at c.args.byte (omega arith) c.requires c.if-shift-eq0.false)
