use Rattle.std.proofs.Common.{◌≡◌, ◌+◌, ◌<◌, List, length, get_or, sym, ap, ◌∙◌, subst, arith}
use Rattle.tlb_syntax.specs.View.{constructor}
use Rattle.tlb_guard.specs.declared.rules.Rule.{Rule}
use Rattle.tlb_guard.specs.Exposed.{a_variable, is_variable_called}
use Rattle.tlb_guard.specs.Numbering.{views}
use Rattle.tlb_guard.specs.Variables.{AddsRules, called_among, is_called_at}
use Rattle.tlb_guard.proofs.CalledParameters.{all_called, none_called, one_called, variable_there}
use Rattle.tlb_guard.proofs.exposed.add_called.Goals as goal
use Rattle.tlb_guard.proofs.exposed.add_called.Goals.{then-is_called+in_ok-add_rule, else-is_called}

pub loop-place-preserved : goal.loop-place-preserved
loop-place-preserved c =
    let s = views c.args.types.now in
    let d = c.args.constructor.now in
    let v = c.args.variable.now in
    let through = c.args.through.now in
    let i = c.loop-place.place in
    let e = c.e-item.result in
    let same : c.as_slice-e-items.result.now ≡ d.params = c.as_slice-e-items.ensures in
    let size : length c.as_slice-e-items.result.now ≡ length d.params = ap length same in
    let lt : i < length d.params = omega arith in
    let is : e ≡ get_or d.params i e = c.e-item.is ∙ ap (λ z. get_or z i e) same in
    let there : is_called_at (constructor d) v i ≡ c.is_called.result =
    ap (λ o. is_variable_called o (a_variable v)) (variable_there d.params i e lt is) ∙ sym c.is_called.ensures in
    let P : List Rule → Type 0 = λ z. AddsRules s (called_among (constructor d) v through (i + 1)) c.args.rules.now z in
    elim c.if-is_called.branch [
      | then-is_called+in_ok-add_rule w ↦
          subst P (sym w.rules-is)
          (one_called s (constructor d) v through i c.args.rules.now c.loop-place.rules w.add_rule.new.rules (there ∙ w.if-is_called.true)
          c.loop-place.invariant (w.in_ok-add_rule.ensures d.result (sym c.place.ensures ∙ c.in-Some.is)))
      | else-is_called w ↦
          subst P (sym w.rules-is)
          (none_called s (constructor d) v through i c.args.rules.now c.loop-place.rules (there ∙ w.if-is_called.false) c.loop-place.invariant)
    ]

pub returns : goal.returns
returns c =
    let d = c.args.constructor.now in
    let size : length c.as_slice-e-items.result.now ≡ length d.params = ap length c.as_slice-e-items.ensures in
    all_called (views c.args.types.now) d c.args.variable.now c.args.through.now c.loop-place.place c.args.rules.now c.loop-place.rules
    (omega arith) c.loop-place.invariant
