use Rattle.std.proofs.Common.{length}
use Rattle.cell_pool.proofs.Sought.{IsSought}
use Rattle.cell_pool.proofs.pool.Pool.find.Given as goal

abbrev pub invariant-chain : goal.invariant-chain
invariant-chain l = IsSought l.self (length l.self-inside.heads.items) l.cell l.link

abbrev pub decreases-chain : goal.decreases-chain
decreases-chain l = l.link
