use Rattle.std.proofs.Common.{◌<◌, ◌≢◌, length, arith, below_more, get_or-set_other, get_or-set_same, length-set}
use Rattle.cell_nodes.proofs.Bytes.{pair_hash-bytes}
use Rattle.cell_nodes.proofs.layouts.stored_hash.Goals as goal

pub bytes-preserved : goal.bytes-preserved
bytes-preserved c = record {
  whole = rw length-set c.bytes.invariant.whole;
  read = below_more _ _
      (λ k h. let ne : k ≢ c.bytes.i = omega arith in rw get_or-set_other (c.bytes.invariant.read k h))
      (let lt : c.bytes.i < length c.bytes.hash = omega arith in rw get_or-set_same c.byte_at.ensures);
}

pub returns : goal.returns
returns c = pair_hash-bytes c.args.bits.now _ c.args.j _ (omega arith) c.bytes.invariant.whole (λ k h. c.bytes.invariant.read k (omega arith))
