use Rattle.std.proofs.Common.{◌∙◌, arith, sym}
use Rattle.std.proofs.lemmas.Grind.{common_steps}
use Rattle.std.proofs.lemmas.List.FromFn.{map-range_with_len_more}
use Rattle.bit_slice.specs.Bits.{completed_byte}
use Rattle.bit_slice.specs.Completion.{bits_from-completed_bytes}
use Rattle.bit_slice.proofs.string.BitString.from_slice.Goals as goal

pub bytes-preserved : goal.bytes-preserved
bytes-preserved c = (
  c.in_ok-push_byte.ensures ∙ rw (c.bytes.invariant.0, c.completed_byte.ensures) (sym (map-range_with_len_more (completed_byte c.args.s) 0 c.bytes.i c.bytes.i (omega arith))),
  grind (arith, common_steps),
)

pub returns : goal.returns
returns c =
    c.of_bytes.ensures ∙ rw (c.bytes.invariant.0, c.len-len.ensures.value) (bits_from-completed_bytes c.args.s c.bytes.i c.len-len.ensures.bits (omega arith))
