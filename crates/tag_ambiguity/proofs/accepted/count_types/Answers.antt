use Rattle.std.proofs.Common.{◌≡◌, ◌∙◌, ◌≤◌, Some, ap, arith, length, sym}
use Rattle.std.specs.Prelude.{slice_get}
use Rattle.tag_ambiguity.proofs.Counting.{counted, counted_first, counted_other}
use Rattle.tag_ambiguity.proofs.Listing.{got, head_count}
use Rattle.tag_ambiguity.proofs.accepted.count_types.Goals as goal
use Rattle.tag_ambiguity.proofs.accepted.count_types.Goals.{then-head-place, else-head-place}

pub loop-place-preserved : goal.loop-place-preserved
loop-place-preserved c =
    let hs = c.args.heads.now in
    let k = c.loop-place.place in
    let h = c.index-heads-place.result in
    let there : slice_get hs k ≡ Some h = got hs k h c.loop-place-test.true ∙ ap Some (sym c.index-heads-place.is) in
    elim c.if-head-place.branch [
      | then-head-place w ↦ record {
        few = omega (arith, c.loop-place.invariant.few, w.types-is);
        counted = λ s are. w.types-is ∙ counted_first s hs k c.loop-place.types h are there w.if-head-place.true (c.loop-place.invariant.counted s are);
      }
      | else-head-place w ↦ record {
        few = omega (arith, c.loop-place.invariant.few, w.types-is);
        counted = λ s are. w.types-is ∙ counted_other s hs k c.loop-place.types h are there w.if-head-place.false (c.loop-place.invariant.counted s are);
      }
    ]

pub returns : goal.returns
returns c = λ s are.
    let end : length s ≤ c.loop-place.place = omega (arith, c.loop-place-test.false, head_count s s c.args.heads.now are) in
    counted s c.loop-place.place c.loop-place.types end (c.loop-place.invariant.counted s are)
