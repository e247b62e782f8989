use Rattle.std.proofs.Common.{◌≡◌, length}
use Rattle.tlb_guard.specs.Users.{AreNumbersBelow}
use Rattle.tlb_guard.proofs.users.no_users.Given as goal

abbrev pub invariant-loop-fact : goal.invariant-loop-fact
invariant-loop-fact l = record { facts : length l.users.items ≡ l._fact; bounded : AreNumbersBelow 0 l.users.items }
