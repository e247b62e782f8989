use Rattle.std.proofs.Common.{refl}
use Rattle.tlb_sums.specs.Crc.{crc32c_of, crc32c_polynomial, table_of, byte_bits}
use Rattle.tlb_sums.proofs.crc.crc32c.Goals as goal

pub returns : goal.returns
unfolding crc32c_of table_of byte_bits
returns c = c.crc_by_table.ensures crc32c_polynomial refl
