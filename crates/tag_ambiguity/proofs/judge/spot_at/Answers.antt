use Rattle.std.proofs.Common.{◌≡◌, ◌∙◌, Some, ap, map, sym, take}
use Rattle.std.specs.Prelude.{slice_get}
use Rattle.tlb_syntax.specs.View.{constructor}
use Rattle.tlb_guard.specs.Numbering.{views}
use Rattle.tag_ambiguity.proofs.Listing.{got, mapped, shown_of_spot, taken, type_of_spot}
use Rattle.tag_ambiguity.proofs.judge.spot_at.Goals as goal

pub returns-clause-of_type : goal.returns-clause-of_type
returns-clause-of_type c =
    let xs = c.args.constructors.now in
    let k = c.args.place in
    let x = c.index-constructors-place.result in
    let there : slice_get (views xs) k ≡ Some (constructor x) =
    mapped constructor xs k x (got xs k x c.requires.within ∙ ap Some (sym c.index-constructors-place.is)) in
    type_of_spot (views xs) (map constructor (take k xs)) k (constructor x) _ there c.spot.result c.spot.ensures

pub returns-clause-shown : goal.returns-clause-shown
returns-clause-shown c =
    let xs = c.args.constructors.now in
    let k = c.args.place in
    let x = c.index-constructors-place.result in
    let there : slice_get (views xs) k ≡ Some (constructor x) =
    mapped constructor xs k x (got xs k x c.requires.within ∙ ap Some (sym c.index-constructors-place.is)) in
    shown_of_spot (views xs) (map constructor (take k xs)) k (constructor x) _ (taken constructor xs k) there c.spot.result c.spot.ensures
