use Rattle.std.proofs.Common.{◌≡◌, ◌≤◌, length, take}
use Rattle.tlb_guard.proofs.scope.leave.Given as goal

abbrev pub invariant-loop-scope : goal.invariant-loop-scope
invariant-loop-scope l = record {
  long : l.count ≤ length l.scope;
  prefix : l.scope ≡ take (length l.scope) l.fn.scope;
}

abbrev pub decreases-loop-scope : goal.decreases-loop-scope
decreases-loop-scope l = length l.scope
