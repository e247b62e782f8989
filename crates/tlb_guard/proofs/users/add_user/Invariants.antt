use Rattle.std.proofs.Common.{ℕ, ◌+◌, ◌<◌, get_or}
use Rattle.tlb_guard.specs.Users.{HasUser, AreNumbersBelow}
use Rattle.tlb_guard.proofs.users.add_user.Given as goal

abbrev pub invariant-loop-fact : goal.invariant-loop-fact
invariant-loop-fact l = record {
  kept : (fact rule : ℕ) → HasUser l.fn.users fact rule → HasUser l.users fact rule;
  added : (j : ℕ) → j < l.fact-index → HasUser l.users (get_or l.body j 0) l.number;
  bounded : AreNumbersBelow l.number l.fn.users → AreNumbersBelow (l.number + 1) l.users;
}
