use Rattle.std.proofs.Common.{◌∙◌, sym}
use Rattle.std.specs.Prelude.{None, Some}
use Rattle.tag_ambiguity.specs.declared.inputs.Input.TheVariants.{OfType}
use Rattle.tag_ambiguity.proofs.Listing.{got}
use Rattle.tag_ambiguity.proofs.Patterns.{ended, settled}
use Rattle.tag_ambiguity.proofs.inputs.are_excluding.Goals as goal

pub returns-in_default : goal.returns-in_default
returns-in_default c =
    let ps = c.args.ps.now in
    let k = c.loop-place.place in
    sym (c.loop-place.invariant ∙ ended ps c.args.qs.now k _ (got ps k OfType c.loop-place-test.true) (sym c.in_default.ensures))

pub loop-place-preserved : goal.loop-place-preserved
loop-place-preserved c =
    let ps = c.args.ps.now in
    let k = c.loop-place.place in
    c.loop-place.invariant
    ∙ settled ps c.args.qs.now k _ c.in-Some.q.now None (got ps k _ c.loop-place-test.true) (sym c.in-Some.ensures) c.in_default-verdict.ensures

pub returns-in-Some-verdict : goal.returns-in-Some-verdict
returns-in-Some-verdict c =
    let ps = c.args.ps.now in
    let k = c.loop-place.place in
    sym (c.loop-place.invariant
    ∙ settled ps c.args.qs.now k _ c.in-Some.q.now (Some c.in-Some-verdict.answer) (got ps k _ c.loop-place-test.true) (sym c.in-Some.ensures) c.in-Some-verdict.ensures)
