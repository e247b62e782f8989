use Rattle.std.proofs.Common.{◌≡◌, ◌∙◌, ◌<◌, ◌≤◌, List, [], Some, ap, arith, length, subst, sym}
use Rattle.std.specs.List.{flat_map}
use Rattle.std.specs.Prelude.{slice_get}
use Rattle.std.proofs.lemmas.List.{length-map}
use Rattle.std.proofs.lemmas.Result.{err_from_is_err_and}
use Rattle.tlb_syntax.specs.View.{constructor}
use Rattle.tlb_guard.specs.Numbering.{views}
use Rattle.schema_leads.specs.Tags.{cores}
use Rattle.accepted_schema.specs.Refusals.{TagRefusal, of_type_of}
use Rattle.tag_ambiguity.specs.Judged.{IsFirst}
use Rattle.tag_ambiguity.specs.Pairs.{pairs_at}
use Rattle.tag_ambiguity.proofs.Listing.{core_count, got, head_count, members_at, whole}
use Rattle.tag_ambiguity.proofs.Pairs.{at_first, at_other, first_here, is_at, one_more}
use Rattle.tag_ambiguity.proofs.judge.judge_types.Goals as goal
use Rattle.tag_ambiguity.proofs.judge.judge_types.Goals.{then-head-place+in_ok-judge_members, else-head-place}

pub judge_members-requires-clause-members : goal.judge_members-requires-clause-members
judge_members-requires-clause-members c =
    let xs = c.args.marks.now.constructors.now in
    let s = views xs in
    let k = c.loop-place.place in
    let lt : k < length c.args.members.now = omega (arith, c.loop-place-test.true, c.requires.size) in
    let count : length c.args.heads.now ≡ length xs = omega (arith, head_count s s c.args.heads.now c.requires.heads, length-map xs constructor) in
    (members_at c.args.heads.now c.args.members.now k (length xs) c.as_slice.result.now c.index-members-place.result c.requires.members lt
    (c.as_slice.ensures ∙ c.index-members-place.is) count).below

pub returns-in_err-judge_members : goal.returns-in_err-judge_members
returns-in_err-judge_members c =
    let xs = c.args.marks.now.constructors.now in
    let s = views xs in
    let k = c.loop-place.place in
    let h = c.index-heads-place.result in
    let there : slice_get c.args.heads.now k ≡ Some h = got c.args.heads.now k h c.loop-place-test.true ∙ ap Some (sym c.index-heads-place.is) in
    let at = is_at s c.args.heads.now k h c.requires.heads there in
    let lt : k < length c.args.members.now = omega (arith, c.loop-place-test.true, c.requires.size) in
    let count : length c.args.heads.now ≡ length xs = omega (arith, head_count s s c.args.heads.now c.requires.heads, length-map xs constructor) in
    let mem = members_at c.args.heads.now c.args.members.now k (length xs) c.as_slice.result.now c.index-members-place.result c.requires.members lt
    (c.as_slice.ensures ∙ c.index-members-place.is) count in
    let same = ap (pairs_at (cores s)) mem.are ∙ at_first s c.args.heads.now k h c.requires.heads at c.if-head-place.true in
    let e = c.in_err-judge_members.field-0.0 in
    let P : List TagRefusal → Type 0 = λ z. IsFirst z e in
    let p = err_from_is_err_and c.from_residual.result c.from_residual.ensures.1 in
    rw (p.1, p.2) (first_here s k h at e c.loop-place.invariant (subst P same c.in_err-judge_members.ensures))

pub loop-place-preserved : goal.loop-place-preserved
loop-place-preserved c =
    let xs = c.args.marks.now.constructors.now in
    let s = views xs in
    let k = c.loop-place.place in
    let h = c.index-heads-place.result in
    let there : slice_get c.args.heads.now k ≡ Some h = got c.args.heads.now k h c.loop-place-test.true ∙ ap Some (sym c.index-heads-place.is) in
    let at = is_at s c.args.heads.now k h c.requires.heads there in
    let lt : k < length c.args.members.now = omega (arith, c.loop-place-test.true, c.requires.size) in
    let count : length c.args.heads.now ≡ length xs = omega (arith, head_count s s c.args.heads.now c.requires.heads, length-map xs constructor) in
    elim c.if-head-place.branch [
      | then-head-place+in_ok-judge_members w ↦
          let mem = members_at c.args.heads.now c.args.members.now k (length xs) w.as_slice.result.now w.index-members-place.result c.requires.members lt
          (w.as_slice.ensures ∙ w.index-members-place.is) count in
          let same = ap (pairs_at (cores s)) mem.are ∙ at_first s c.args.heads.now k h c.requires.heads at w.if-head-place.true in
          one_more s k h at c.loop-place.invariant (sym same ∙ w.in_ok-judge_members.ensures)
      | else-head-place w ↦
          one_more s k h at c.loop-place.invariant (at_other s k h at w.if-head-place.false c.loop-place.invariant)
    ]

pub returns : goal.returns
returns c =
    let s = views c.args.marks.now.constructors.now in
    let k = c.loop-place.place in
    let end : length (cores s) ≤ k =
    omega (arith, c.loop-place-test.false, head_count s s c.args.heads.now c.requires.heads, core_count s [] s) in
    ap (flat_map (of_type_of (cores s))) (sym (whole (cores s) k end)) ∙ c.loop-place.invariant
