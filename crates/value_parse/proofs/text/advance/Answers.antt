use Rattle.std.proofs.Common.{◌+◌, ◌≤◌, ◌∙◌, ℕ, List, ap, arith, drop, length, refl, subst}
use Rattle.value_text.specs.Division.{space_before}
use Rattle.value_text.specs.Lexemes.{NothingStands, Stands}
use Rattle.value_grammar.specs.Reading.{at_nothing}
use Rattle.value_parse.specs.View.{held}
use Rattle.value_grammar.specs.ReadingLaws.{reaches_step}
use Rattle.value_parse.proofs.Reach.{some_left, stays_within, step_stops}
use Rattle.value_parse.proofs.text.advance.Goals as goal

pub returns-in-None : goal.returns-in-None
returns-in-None c =
    let P : List ℕ → Type 0 = λ x. NothingStands x in
    at_nothing c.requires.reaches (some_left c.args.text.now c.args.place c.requires.within)
    (subst P c.after-rest.ensures (rw c.in-None.is at c.in_ok-lexeme_at.ensures.stands))

pub returns-in-Err : goal.returns-in-Err
returns-in-Err c =
    let P : List ℕ → Type 0 = λ x. Stands c.in-Some.lexeme c.in-Some.len x in
    step_stops c.args.text.now c.args.place c.in-Some.len (held c.args.state) c.in-Some.lexeme c.in-Err.error c.requires.reaches
    (subst P c.after-rest.ensures (rw c.in-Some.is at c.in_ok-lexeme_at.ensures.stands)) c.in-Err.ensures.steps

pub returns-in-Ok : goal.returns-in-Ok
returns-in-Ok c =
    let P : List ℕ → Type 0 = λ x. Stands c.in-Some.lexeme c.in-Some.len x in
    let some = rw c.in-Some.is at c.in_ok-lexeme_at.ensures.some in
    let long = some.0 in
    let Q : List ℕ → Type 0 = λ x. c.in-Some.len ≤ length x in
    let left = c.after-further.ensures ∙ ap (λ (x : List ℕ). drop c.in-Some.len x) c.after-rest.ensures in
    let R : List ℕ → Type 0 = λ x. c.spaces_before-spaces.result ≤ length x in
    record {
      reached =
          reaches_step c.args.text.now c.args.place c.in-Some.len c.spaces_before-spaces.result (c.args.place + (c.in-Some.len + c.spaces_before-spaces.result))
          (held c.args.state) (held c.in-Ok.next) c.in-Some.lexeme c.requires.reaches (subst P c.after-rest.ensures (rw c.in-Some.is at c.in_ok-lexeme_at.ensures.stands))
          c.in-Ok.ensures.steps (c.spaces_before-spaces.ensures.value ∙ ap space_before left) refl;
      counted = c.in-Ok.ensures.counted;
      further = omega (arith, long);
      within =
          stays_within c.args.text.now c.args.place c.in-Some.len c.spaces_before-spaces.result c.requires.within (subst Q c.after-rest.ensures some.1)
          (subst R left c.spaces_before-spaces.ensures.bound);
    }
