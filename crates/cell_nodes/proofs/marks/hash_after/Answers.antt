use Rattle.std.proofs.Common.{arith}
use Rattle.cell_nodes.proofs.marks.hash_after.Goals as goal

pub hash_with-requires-clause-mask : goal.hash_with-requires-clause-mask
hash_with-requires-clause-mask c = omega (arith, c.requires.low)
