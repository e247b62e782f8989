use Rattle.std.proofs.Common.{◌≡◌, ℕ, ◌+◌, ◌<◌, List, ◌++◌, length, get_or, take, drop, sym, subst, arith, rules as steps}
use Rattle.std.proofs.lemmas.List.{places}
use Rattle.tlb_guard.specs.Users.{HasUser, AreUsersTo, AreNumbersBelow}
use Rattle.tlb_guard.proofs.RuleUsers.{users_more}
use Rattle.tlb_guard.proofs.users.users_of.Goals as goal

pub loop-number-preserved : goal.loop-number-preserved
loop-number-preserved c =
    let new = c.add_user.new.users in
    let n = c.loop-number.number in
    let back : take c.loop-number.users.len (new ++ drop (length new) c.loop-number.users.items) ≡ new = search (steps, places) in
    let lt : n < length c.args.rules.now = omega arith in
    let size : length new ≡ c.args.count = search steps in
    let R : List (List ℕ) → Type 0 = λ z. record { facts : length z ≡ c.args.count; bounded : AreNumbersBelow (n + 1) z; users : AreUsersTo z c.args.rules.now (n + 1) } in
    let old = c.as_mut_slice.result.now in
    let bounded : AreNumbersBelow n old = let P : List (List ℕ) → Type 0 = λ z. AreNumbersBelow n z in subst P (sym c.as_mut_slice.ensures.value) c.loop-number.invariant.bounded in
    let before : AreUsersTo old c.args.rules.now n =
    let P : List (List ℕ) → Type 0 = λ z. AreUsersTo z c.args.rules.now n in subst P (sym c.as_mut_slice.ensures.value) c.loop-number.invariant.users in
    let r = c.index-rules-number.result in
    let added : (j : ℕ) → j < length r.body → HasUser new (get_or r.body j 0) n =
    let P : List ℕ → Type 0 = λ z. (j : ℕ) → j < length z → HasUser new (get_or z j 0) n in
    subst P c.as_slice.ensures c.in_ok-add_user.ensures.added in
    subst R (sym back) (record {
      facts = size;
      bounded = c.in_ok-add_user.ensures.bounded bounded;
      users = users_more old new c.args.rules.now n r lt c.index-rules-number.is c.in_ok-add_user.ensures.kept added before;
    })
