use Rattle.std.proofs.Common.{◌≡◌, ℕ, false, Bool, List, length, replicate, sym, ap, ◌∙◌, subst, rules as steps}
use Rattle.std.proofs.lemmas.List.{length-replicate}
use Rattle.tlb_guard.specs.Facts.{holds, IsSound}
use Rattle.tlb_guard.specs.Users.{HasUser}
use Rattle.tlb_guard.proofs.Searches.{first_sound}
use Rattle.tlb_guard.proofs.least.least_with.Goals as goal

pub finish-requires-clause-users : goal.finish-requires-clause-users
finish-requires-clause-users c = λ fact lt k d j within below e.
    let P : ℕ → Type 0 = λ z. HasUser c.args.users.now z k in
    subst P e (c.requires.users k d j within below)

pub returns : goal.returns
returns c =
    let n = length c.args.users.now in
    let made : c.in_ok-vec.field-0.items ≡ replicate n false = search steps in
    let begun : c.from_vec.result ≡ replicate n false = c.from_vec.ensures ∙ made in
    let sound : IsSound c.args.rules.now c.args.seeds.now (holds c.from_vec.result) =
    let P : List Bool → Type 0 = λ z. IsSound c.args.rules.now c.args.seeds.now (holds z) in
    subst P (sym begun) (first_sound n c.args.rules.now c.args.seeds.now) in
    record {
      facts =
          c.in_ok-finish.ensures.extends.facts ∙ c.in_ok-apply_all.ensures.extends.facts ∙ c.in_ok-add_all.ensures.extends.facts
          ∙ ap length begun ∙ length-replicate n false;
      closed = record {
        seeded = λ k d lt. c.in_ok-finish.ensures.extends.more _ (c.in_ok-apply_all.ensures.extends.more _ (c.in_ok-add_all.ensures.seeded k d lt));
        ruled = c.in_ok-finish.ensures.ruled;
      };
      sound = c.in_ok-finish.ensures.sound c.args.seeds.now (c.in_ok-apply_all.ensures.sound c.args.seeds.now (c.in_ok-add_all.ensures.sound c.args.rules.now sound));
    }
