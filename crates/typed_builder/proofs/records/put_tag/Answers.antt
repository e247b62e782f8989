use Rattle.std.proofs.Common.{List, false, subst, sym, ℕ}
use Rattle.building.specs.PlainBuilder.{put}
use Rattle.core_form.specs.Core.{Declaration}
use Rattle.plan_building.specs.View.{grown}
use Rattle.plan_reading.specs.StopLaws.{stops_moved}
use Rattle.plan_reading.specs.Stops.{Stops}
use Rattle.spelling.specs.Places.{tag_of}
use Rattle.spelling.specs.Slices.{only_bits}
use Rattle.std.proofs.Common.{slice_get}
use Rattle.typed_builder.proofs.Planned.{had}
use Rattle.typed_builder.specs.View.{core_of}
use Rattle.typed_builder.proofs.records.put_tag.Goals as goal

pub returns-in-Err : goal.returns-in-Err
returns-in-Err c = λ h d there.
    let same = had (λ (z : Declaration). z.core.tag) (slice_get (core_of c.args.plan.now.0) c.args.c) d c.tag-tag.result
    there
    c.tag-tag.ensures in
    let T : List ℕ → Type 0 = λ z. Stops h c.in_tag.result (put (tag_of h) (only_bits z) false false
    (grown c.args.b.now)) in
    subst T (sym same)
    (stops_moved (tag_of h) h c.in-Err.error c.in_tag.result (put (tag_of h) (only_bits c.tag-tag.result) false false
    (grown c.args.b.now))
    (c.in_tag.ensures h) (c.in-Err.ensures (tag_of h)))
