use Rattle.std.proofs.Common.{refl}
use Rattle.tlb_sums.specs.Crc.{crc32_of, crc32_polynomial, table_of, byte_bits}
use Rattle.tlb_sums.proofs.crc.crc32.Goals as goal

pub returns : goal.returns
unfolding crc32_of table_of byte_bits
returns c = c.crc_by_table.ensures crc32_polynomial refl
