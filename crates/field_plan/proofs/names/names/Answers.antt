use Rattle.std.proofs.Common.{◌∙◌, ◌≤◌, [], ap, arith, length, map, refl}
use Rattle.std.proofs.lemmas.List.{length-map, take_all}
use Rattle.tlb_syntax.specs.View.{constructor}
use Rattle.schema_leads.specs.Tags.{cores}
use Rattle.field_plan.specs.Names.{name_of}
use Rattle.field_plan.proofs.Choice.{number_positive}
use Rattle.field_plan.proofs.Declared.{core_count}
use Rattle.field_plan.proofs.Naming.{of_named, named_as, named_next}
use Rattle.field_plan.proofs.names.names.Goals as goal

pub shown_name-requires : goal.shown_name-requires
shown_name-requires c =
    let xs = c.args.constructors.now in
    let k = c.loop-place.place in
    let x = c.index-constructors-place.result in
    let at = of_named xs k x x.result c.loop-place-test.true c.index-constructors-place.is refl in
    omega (arith, c.number_of-number.ensures at.declaration at.there, number_positive (map constructor xs) k at.declaration at.there)

pub loop-place-preserved : goal.loop-place-preserved
loop-place-preserved c =
    let xs = c.args.constructors.now in
    let k = c.loop-place.place in
    let x = c.index-constructors-place.result in
    let at = of_named xs k x x.result c.loop-place-test.true c.index-constructors-place.is refl in
    named_next (cores (map constructor xs)) c.loop-place.names c.push.new.self _ k at.declaration c.loop-place.invariant
    c.in_ok-push.ensures.ok at.there
    (named_as xs k x x.result c.in_ok-shown.shown c.number_of-number.result c.as_ref.result at (c.number_of-number.ensures at.declaration at.there)
    c.as_ref.ensures.value c.in_ok-shown.ensures)

pub returns : goal.returns
returns c =
    let xs = c.args.constructors.now in
    let s = map constructor xs in
    let all : length (cores s) ≤ c.loop-place.place = omega (arith, c.loop-place-test.false, length-map xs constructor, core_count s [] s) in
    c.loop-place.invariant ∙ ap (map name_of) (take_all c.loop-place.place (cores s) all)
