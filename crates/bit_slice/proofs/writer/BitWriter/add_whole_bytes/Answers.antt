use Rattle.std.proofs.Common.{arith}
use Rattle.bit_slice.specs.BitLists.{whole-byte-pushed}
use Rattle.bit_slice.proofs.writer.BitWriter.add_whole_bytes.Goals as goal

pub bytes-preserved : goal.bytes-preserved
bytes-preserved c = (
  whole-byte-pushed c.push_byte.new.self c.bytes.self c.args.self.now c.args.s.now c.bytes.i c.whole_byte.result
      c.len-i-end.ensures.bits (omega arith) c.bytes.invariant.0 c.whole_byte.ensures c.push_byte.ensures,
  c.requires,
)
