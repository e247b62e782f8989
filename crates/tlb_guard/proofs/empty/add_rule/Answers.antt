use Rattle.std.proofs.Common.{ℕ, List, Option, Some, sym, subst}
use Rattle.tlb_syntax.specs.View.{constructor}
use Rattle.tlb_guard.specs.declared.rules.Rule.{Rule}
use Rattle.tlb_guard.specs.Numbering.{views}
use Rattle.tlb_guard.specs.Views.{AddsRule, MeetsNeeds}
use Rattle.tlb_guard.proofs.EmptyRules.{one_rule}
use Rattle.tlb_guard.proofs.empty.add_rule.Goals as goal

pub returns : goal.returns
returns c =
    let s = views c.args.types.now in
    let d = constructor c.args.constructor.now in
    let R : Option (List ℕ) → Type 0 = λ o. MeetsNeeds s d o in
    let needs : MeetsNeeds s d (Some c.in-Some.body) = subst R c.in-Some.is c.in_ok-body.ensures in
    let P : List Rule → Type 0 = λ z. AddsRule s d c.args.rules.now z in
    subst P (sym c.in_ok-push.ensures.ok) (one_rule s d c.args.rules.now c.in-Some-place.head c.in-Some.body (sym c.in-Some-place.ensures) needs.1 needs.0)
