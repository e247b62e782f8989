use Rattle.std.proofs.Common.{◌≡◌, true, List, [], ◌∷◌, ◌++◌, sym, ap, ◌∙◌, subst}
use Rattle.tlb_guard.specs.declared.rules.Rule.{Rule}
use Rattle.tlb_guard.specs.DeclaredTypes.{is_type_parameter}
use Rattle.tlb_guard.specs.Numbering.{views}
use Rattle.tlb_guard.specs.Variables.{AddsRules, at_place}
use Rattle.tlb_guard.proofs.ParameterRules.{push_rule}
use Rattle.tlb_guard.proofs.exposed.add_rule.Goals as goal

pub returns-in_ok-push : goal.returns-in_ok-push
returns-in_ok-push c = λ x at.
    let s = views c.args.types.now in
    let through = c.args.through.now in
    let old = c.args.rules.now in
    let head = c.in-Some.head in
    let typed : is_type_parameter s (record { of = x; place = c.args.place }) ≡ true = sym (c.is_type_parameter.ensures x at) ∙ c.if-is_type_parameter.true in
    let numbered = sym c.in_ok-head.ensures ∙ c.in-Some.is in
    let P : List Rule → Type 0 = λ z. AddsRules s (at_place x c.args.place through) old z in
    let body = ap (λ z. old ++ record { head = head; body = z } ∷ []) c.in_ok-body.ensures in
    subst P (sym (c.in_ok-push.ensures.ok ∙ body)) (push_rule s x c.args.number c.args.place through at old head typed numbered c.requires)
