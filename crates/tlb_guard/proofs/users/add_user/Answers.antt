use Rattle.std.proofs.Common.{◌≡◌, ℕ, ◌<◌, [], ◌∷◌, ◌++◌, length, get_or, set, ap, ◌∙◌, arith, below_more}
use Rattle.std.proofs.lemmas.List.{get_or_default}
use Rattle.tlb_guard.specs.Users.{users_at, HasUser}
use Rattle.tlb_guard.proofs.RuleUsers.{push_added, push_kept, push_few}
use Rattle.tlb_guard.proofs.users.add_user.Goals as goal

pub loop-fact-preserved : goal.loop-fact-preserved
loop-fact-preserved c =
    let users = c.loop-fact.users in
    let i = c.loop-fact.fact-index in
    let fact = get_or c.args.body.now i 0 in
    let lt : i < length c.args.body.now = omega arith in
    let size = c.loop-fact.auto.users in
    let below : fact < length users = omega (arith, size, c.requires i 0 lt) in
    let q = c.push.new.self in
    let is : q ≡ users_at users fact ++ c.args.number ∷ [] =
    c.in_ok-push.ensures.ok
    ∙ ap (λ z. z ++ c.args.number ∷ []) (get_or_default users fact c.index-users-fact.result [] below) in
    let P : ℕ → Type 0 = λ j. HasUser (set users fact q) (get_or c.args.body.now j 0) c.args.number in
    record {
      kept = λ f rule h. push_kept users fact c.args.number below q is f rule (c.loop-fact.invariant.kept f rule h);
      added = below_more P i
          (λ j before. push_kept users fact c.args.number below q is (get_or c.args.body.now j 0) c.args.number (c.loop-fact.invariant.added j before))
          (push_added users fact c.args.number below q is);
      bounded = λ h. push_few users fact c.args.number below q is (c.loop-fact.invariant.bounded h);
    }
