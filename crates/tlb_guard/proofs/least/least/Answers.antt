use Rattle.std.proofs.Common.{List, ℕ, length, sym, subst}
use Rattle.tlb_guard.specs.Users.{AreUsersTo}
use Rattle.tlb_guard.proofs.least.least.Goals as goal

pub least_with-requires-clause-users : goal.least_with-requires-clause-users
least_with-requires-clause-users c =
    let P : List (List ℕ) → Type 0 = λ z. AreUsersTo z c.args.rules.now (length c.args.rules.now) in
    subst P (sym c.as_slice.ensures.value) c.in_ok-users.ensures.users
