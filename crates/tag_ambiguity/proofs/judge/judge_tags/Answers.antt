use Rattle.std.proofs.Common.{◌≡◌, ◌∙◌, ◌<◌, ◌≤◌, [], Some, ap, arith, length, sym}
use Rattle.std.specs.Prelude.{slice_get}
use Rattle.std.proofs.lemmas.List.{length-map}
use Rattle.tlb_syntax.specs.View.{constructor}
use Rattle.tlb_guard.specs.Numbering.{views}
use Rattle.schema_leads.specs.Tags.{cores}
use Rattle.accepted_schema.specs.Refusals.{of_tags, tag_too_long}
use Rattle.tag_ambiguity.proofs.Firsts.{reported}
use Rattle.tag_ambiguity.proofs.Listing.{core_count, got, head_count, none_after}
use Rattle.tag_ambiguity.proofs.Pairs.{is_at}
use Rattle.tag_ambiguity.proofs.Tags.{tag_fails, tag_passes}
use Rattle.tag_ambiguity.proofs.judge.judge_tags.Goals as goal

pub too_long-requires-clause-within : goal.too_long-requires-clause-within
too_long-requires-clause-within c =
    let s = views c.args.constructors.now in
    omega (arith, c.loop-place-test.true, head_count s s c.args.heads.now c.requires.heads, length-map c.args.constructors.now constructor)

pub returns-then-len-gt-LONGEST_TAG : goal.returns-then-len-gt-LONGEST_TAG
returns-then-len-gt-LONGEST_TAG c =
    let s = views c.args.constructors.now in
    let k = c.loop-place.place in
    let h = c.index-heads-place.result in
    let there : slice_get c.args.heads.now k ≡ Some h = got c.args.heads.now k h c.loop-place-test.true ∙ ap Some (sym c.index-heads-place.is) in
    let at = is_at s c.args.heads.now k h c.requires.heads there in
    let long : 63 < length h.tag = omega (arith, c.if-len-gt-LONGEST_TAG.true, c.len.ensures.value, ap length c.slice.ensures) in
    reported (of_tags (cores s)) (tag_too_long at.declaration.of_type at.declaration.shown) c.too_long.result
    (tag_fails s k h at long c.loop-place.invariant) (c.too_long.ensures at.declaration at.there)

pub loop-place-preserved : goal.loop-place-preserved
loop-place-preserved c =
    let s = views c.args.constructors.now in
    let k = c.loop-place.place in
    let h = c.index-heads-place.result in
    let there : slice_get c.args.heads.now k ≡ Some h = got c.args.heads.now k h c.loop-place-test.true ∙ ap Some (sym c.index-heads-place.is) in
    let at = is_at s c.args.heads.now k h c.requires.heads there in
    let short : length h.tag ≤ 63 = omega (arith, c.if-len-gt-LONGEST_TAG.false, c.len.ensures.value, ap length c.slice.ensures) in
    tag_passes s k h at short c.loop-place.invariant

pub returns : goal.returns
returns c =
    let s = views c.args.constructors.now in
    let end : length (cores s) ≤ c.loop-place.place =
    omega (arith, c.loop-place-test.false, head_count s s c.args.heads.now c.requires.heads, core_count s [] s) in
    c.loop-place.invariant ∙ ap of_tags (none_after (cores s) c.loop-place.place end)
