use Rattle.std.proofs.Common.{◌≡◌, ℕ, ◌<◌, List, [], ◌∷◌, ◌++◌, length, ap, sym, subst, ◌∙◌, arith}
use Rattle.std.specs.Prelude.{All}
use Rattle.lead_table.specs.Chains.{IsFollowed}
use Rattle.lead_table.proofs.Following.{all_front}
use Rattle.lead_table.proofs.chain.fill.Goals as goal

pub loop-of-preserved : goal.loop-of-preserved
loop-of-preserved c =
    let chain : c.loop-of.chain ≡ c.pop.new.self ++ c.in-Some.of ∷ [] = c.in-Some.ensures in
    let before = c.loop-of.invariant in
    let P : ℕ → Type 0 = λ t. t < length c.args.members.now in
    record {
      size = c.follow.auto.table ∙ before.size;
      below = c.in_ok-follow.ensures.below (all_front P c.pop.new.self c.in-Some.of (subst (All P) chain before.below));
      followed = λ s is number settled.
          (let F : List ℕ → Type 0 = λ z. IsFollowed s z c.loop-of.table in
          c.in_ok-follow.ensures.followed s is (subst F chain (before.followed s is number settled)));
      seen = λ n was. c.in_ok-follow.ensures.seen n (before.seen n was);
      filled = c.in_ok-follow.ensures.seen c.args.start before.filled;
    }
