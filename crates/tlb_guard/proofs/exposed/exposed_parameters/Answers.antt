use Rattle.std.proofs.Common.{◌≡◌, ◌<◌, ◌≤◌, Bool, List, [], length, map, get_or, sym, ap, ◌∙◌, subst, arith}
use Rattle.std.specs.Prelude.{All}
use Rattle.std.proofs.lemmas.Result.{IfOk-weaker}
use Rattle.tlb_syntax.specs.View.{constructor}
use Rattle.kind_terms.specs.Words.{Word}
use Rattle.tlb_guard.specs.declared.exposures.Exposure.{Exposure}
use Rattle.tlb_guard.specs.declared.rules.Rule.{Rule}
use Rattle.tlb_guard.specs.DeclaredTypes.{Parameter}
use Rattle.tlb_guard.specs.Empty.{may_take_nothing}
use Rattle.tlb_guard.specs.Exposed.{exposed_parameters}
use Rattle.tlb_guard.specs.Facts.{IsBelow, IsLeast, holds}
use Rattle.tlb_guard.specs.Numbering.{parameters_in, types_in, views}
use Rattle.tlb_guard.specs.Views.{IsWithin, exposed_in}
use Rattle.tlb_guard.specs.Variables.{AddsRules, AreExposures, named_at, named_by}
use Rattle.tlb_guard.proofs.ExposedParameters.{all_constructors, exposed_last, named_until, one_constructor, rules_below}
use Rattle.tlb_guard.proofs.exposed.exposed_parameters.Goals as goal

pub add_exposures-requires : goal.add_exposures-requires
add_exposures-requires c =
    let L : List Exposure → Type 0 = All (IsWithin (views c.args.types.now)) in
    let same : length c.constructors-constructor-items.result.now ≡ length c.args.types.now = ap length c.constructors-constructor-items.ensures in
    let below : c.loop-number.number < length c.args.exposures.now = omega (arith, same, c.requires.size) in
    subst L (sym (c.as_slice.ensures ∙ c.index-exposures-number.is)) (c.requires.within c.loop-number.number c.index-exposures-number.result below)

pub loop-number-preserved : goal.loop-number-preserved
loop-number-preserved c =
    let cs = c.args.types.now in
    let s = views cs in
    let exposures = c.args.exposures.now in
    let i = c.loop-number.number in
    let here = c.constructor-item.result in
    let same : c.constructors-constructor-items.result.now ≡ cs = c.constructors-constructor-items.ensures in
    let size : length c.constructors-constructor-items.result.now ≡ length cs = ap length same in
    let lt : i < length cs = omega arith in
    let below : i < length exposures = omega (arith, lt, c.requires.size) in
    let is : here ≡ get_or cs i here = c.constructor-item.is ∙ ap (λ z. get_or z i here) same in
    let group = c.index-exposures-number.result in
    let P : List Exposure → Type 0 = λ z. AddsRules s (named_by s (constructor here) z) c.loop-number.rules c.add_exposures.new.rules in
    one_constructor s cs exposures i here group [] c.loop-number.rules c.add_exposures.new.rules lt below is c.index-exposures-number.is
    c.loop-number.invariant (subst P c.as_slice.ensures c.in_ok-add_exposures.ensures)

pub least-requires : goal.least-requires
least-requires c =
    let cs = c.args.types.now in
    let P : List Rule → Type 0 = All (IsBelow c.in_ok-count.count) in
    subst P (sym c.as_slice-2.ensures)
    (rules_below cs (named_until cs c.args.exposures.now (views cs) c.loop-number.number) c.loop-number.rules c.in_ok-count.count
    c.in_ok-count.ensures c.loop-number.invariant)

pub returns : goal.returns
returns c =
    let cs = c.args.types.now in
    let s = views cs in
    let exposures = c.args.exposures.now in
    let same : length c.constructors-constructor-items.result.now ≡ length cs = ap length c.constructors-constructor-items.ensures in
    let le : length cs ≤ c.loop-number.number = omega arith in
    let bounded : length exposures ≤ c.loop-number.number = omega (arith, le, c.requires.size) in
    let adds = all_constructors s cs exposures c.loop-number.number [] c.loop-number.rules le bounded c.loop-number.invariant in
    let P : List Rule → Type 0 = λ z. AddsRules s (λ t p. named_at p s (map (exposed_in s t) exposures)) [] z in
    let all : P c.as_slice-2.result.now = subst P (sym c.as_slice-2.ensures) adds in
    IfOk-weaker c.least.result (IsLeast c.as_slice-2.result.now [] c.in_ok-count.count)
    (λ found. (empty : List Bool) → AreExposures s empty exposures → ((x : Word) → types_in s (holds empty) x ≡ may_take_nothing s x) → (p : Parameter)
    → parameters_in s (holds found) p ≡ exposed_parameters s p)
    (λ found least empty are known p. exposed_last s empty exposures c.as_slice-2.result.now are all known c.in_ok-count.count found least p)
    c.least.ensures
