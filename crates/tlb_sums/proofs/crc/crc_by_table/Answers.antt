use Rattle.std.proofs.Common.{rules, ◌≡◌, ◌<◌, ◌%◌, ◌^◌, length, slice_index, take, bit_and, bit_xor, sym, refl, arith}
use Rattle.std.proofs.lemmas.List.{take_all}
use Rattle.std.proofs.lemmas.Nat.{and_mask}
use Rattle.tlb_sums.specs.Crc.{crc_of, all_ones}
use Rattle.tlb_sums.proofs.Registers.{message_step, table_step}
use Rattle.tlb_sums.proofs.crc.crc_by_table.Goals as goal

pub loop-byte-preserved : goal.loop-byte-preserved
loop-byte-preserved c = λ polynomial is_table.
    let byte = slice_index c.args.bytes.now c.loop-byte.byte-index in
    let value : c.from.result ≡ byte = search rules in
    let small : byte < 256 = search rules in
    let within : c.loop-byte.byte-index < length c.args.bytes.now = omega arith in
    let before = c.loop-byte.invariant polynomial is_table in
    let place : bit_and (bit_xor c.loop-byte.register byte) 255 ≡ bit_xor c.loop-byte.register byte % 2 ^ 8 = and_mask (bit_xor c.loop-byte.register byte) 8 in
    rw (value, place, is_table, table_step polynomial c.loop-byte.register byte small, before)
    (sym (message_step polynomial all_ones c.args.bytes.now c.loop-byte.byte-index within))

pub returns : goal.returns
unfolding crc_of
returns c = λ polynomial is_table.
    let whole : take c.loop-byte.byte-index c.args.bytes.now ≡ c.args.bytes.now = take_all _ _ (omega arith) in
    rw (c.loop-byte.invariant polynomial is_table, whole) refl
