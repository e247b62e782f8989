use Rattle.std.proofs.Common.{◌<◌, ◌≢◌, length, arith, below_more, get_or-set_other, get_or-set_same, length-set}
use Rattle.proof_view.proofs.Bytes.{hash_bytes}
use Rattle.proof_view.proofs.stored.stored_hash.Goals as goal

pub bytes-preserved : goal.bytes-preserved
bytes-preserved c = record {
  whole = rw length-set c.bytes.invariant.whole;
  read = below_more _ _
      (λ k h. let ne : k ≢ c.bytes.i = omega arith in rw get_or-set_other (c.bytes.invariant.read k h))
      (let lt : c.bytes.i < length c.bytes.hash = omega arith in rw get_or-set_same c.byte_at.ensures);
}

pub returns : goal.returns
returns c = hash_bytes c.args.bits.now _ 1 c.bytes.invariant.whole (λ k h. c.bytes.invariant.read k (omega arith))
