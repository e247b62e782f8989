use Rattle.std.proofs.Common.{◌∙◌, arith}
use Rattle.bit_slice.proofs.Completing.{completed_byte-tail, tail-lt, small-mod, below, below_7, fits-small}
use Rattle.bit_slice.proofs.bytes.completed_byte_at.Goals as goal

pub overflow_mul-result : goal.overflow_mul-result
overflow_mul-result c = let h = below_7 _ _ _ _ c.number_at-tail.ensures (omega arith) in omega arith

pub overflow_add-result : goal.overflow_add-result
overflow_add-result c = let h = below_7 _ _ _ _ c.number_at-tail.ensures (omega arith) in omega arith

pub overflow_cast-result-2 : goal.overflow_cast-result-2
overflow_cast-result-2 c =
    let h = tail-lt c.number_at-tail.result _ (omega arith) (below _ _ _ _ c.number_at-tail.ensures) in
    fits-small _ h

pub returns : goal.returns
returns c =
    let h = tail-lt c.number_at-tail.result _ (omega arith) (below _ _ _ _ c.number_at-tail.ensures) in
    small-mod _ h ∙ rw c.number_at-tail.ensures (completed_byte-tail c.args.bytes.now c.args.start c.args.len c.args.i (omega arith) (omega arith))
