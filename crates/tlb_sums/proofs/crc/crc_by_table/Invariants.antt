use Rattle.std.proofs.Common.{◌≡◌, ℕ, take}
use Rattle.tlb_sums.specs.Crc.{after_bits, all_ones, message_bits, table_of}
use Rattle.tlb_sums.proofs.crc.crc_by_table.Given as goal

abbrev pub invariant-loop-byte : goal.invariant-loop-byte
invariant-loop-byte l =
    (polynomial : ℕ) → l.table ≡ table_of polynomial
    → l.register ≡ after_bits polynomial all_ones (message_bits (take l.byte-index l.bytes))
