use Rattle.std.proofs.Common.{◌≡◌, length}
use Rattle.tlb_guard.specs.Users.{AreUsersTo, AreNumbersBelow}
use Rattle.tlb_guard.proofs.users.users_of.Given as goal

abbrev pub invariant-loop-number : goal.invariant-loop-number
invariant-loop-number l = record {
  facts : length l.users.items ≡ l.count;
  bounded : AreNumbersBelow l.number l.users.items;
  users : AreUsersTo l.users.items l.rules l.number;
}
