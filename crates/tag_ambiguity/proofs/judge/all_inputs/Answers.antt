use Rattle.std.proofs.Common.{◌≡◌, ◌∙◌, ◌≤◌, [], Some, ap, arith, length, map, sym, take}
use Rattle.std.specs.Prelude.{slice_get}
use Rattle.std.proofs.lemmas.List.{length-map}
use Rattle.tlb_syntax.specs.View.{constructor}
use Rattle.tlb_guard.specs.Numbering.{views}
use Rattle.core_form.specs.Core.{Declaration}
use Rattle.schema_core.specs.Cores.{declaration_of}
use Rattle.schema_leads.specs.Tags.{cores, tag_of}
use Rattle.tag_ambiguity.specs.Inputs.{plain_inputs}
use Rattle.tag_ambiguity.proofs.Listing.{core_at, core_count, got, mapped, whole}
use Rattle.tag_ambiguity.proofs.Marks.{one_more}
use Rattle.tag_ambiguity.proofs.judge.all_inputs.Goals as goal

pub loop-constructor-preserved : goal.loop-constructor-preserved
loop-constructor-preserved c =
    let xs = c.args.constructors.now in
    let s = views xs in
    let k = c.loop-constructor.constructor-index in
    let x = c.constructor-item.result in
    let there : slice_get s k ≡ Some (constructor x) =
    mapped constructor xs k x (got xs k x c.loop-constructor-test.true ∙ ap Some (sym c.constructor-item.is)) in
    one_more s c.loop-constructor.inputs c.push.new.self c.in_ok-inputs_of.field-0 k (declaration_of s (tag_of (constructor x)) (take k s) (constructor x))
    c.loop-constructor.invariant c.in_ok-push.ensures.ok (core_at s [] s k (constructor x) there) c.in_ok-inputs_of.ensures

pub returns : goal.returns
returns c =
    let xs = c.args.constructors.now in
    let s = views xs in
    let k = c.loop-constructor.constructor-index in
    let end : length (cores s) ≤ k = omega (arith, c.loop-constructor-test.false, length-map xs constructor, core_count s [] s) in
    c.loop-constructor.invariant ∙ ap (map (λ (d : Declaration). plain_inputs d.core.inputs)) (whole (cores s) k end)
