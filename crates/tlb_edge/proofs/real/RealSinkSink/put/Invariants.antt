use Rattle.std.proofs.Common.{◌≡◌, length}
use Rattle.tlb_edge.proofs.real.RealSinkSink.put.Given as goal

-- no fault yet
abbrev pub invariant-pieces : goal.invariant-pieces
invariant-pieces g l = l.self.faults ≡ l.initial.self.faults

-- each write takes a byte
abbrev pub decreases-pieces : goal.decreases-pieces
decreases-pieces g l = length l.rest
