use Rattle.std.proofs.Common.{◌∙◌}
use Rattle.std.proofs.lemmas.Result.{err_from_is_err_and}
use Rattle.plan_building.specs.StopsLaws.{gives_same, stops_same}
use Rattle.plan_building.proofs.Halving.{half_alone, half_judged, half_open, half_placed, open_places, part_alone}
use Rattle.plan_building.proofs.Planting.{judged_ok, judged_stop}
use Rattle.plan_building.proofs.halves.Half.plant.Goals as goal

pub planted-requires-clause-placed : goal.planted-requires-clause-placed
planted-requires-clause-placed c =
    half_placed c.args.self.leaves.items c.args.self.unknown.items _ c.as_slice-in-None.ensures.value
    (open_places _ (half_open c.args.self.leaves.items _ c.args.self.unknown.items _ c.as_slice.ensures.value
    c.as_slice-2.ensures.value c.in-None.ensures) c.requires.places)

pub returns-in_err-planted-in-None : goal.returns-in_err-planted-in-None
returns-in_err-planted-in-None c = λ h.
    let w = err_from_is_err_and c.from_residual.result c.from_residual.ensures.1 in
    rw (w.1, w.2) (stops_same h _ _ _
    (half_judged h c.args.n c.args.self.leaves.items c.args.self.unknown.items _ c.as_slice-in-None.ensures.value
    c.requires.order (half_open c.args.self.leaves.items _ c.args.self.unknown.items _ c.as_slice.ensures.value
    c.as_slice-2.ensures.value c.in-None.ensures))
    (judged_stop h _ _ (c.in_err-planted-in-None.ensures h)))

pub returns-in-Some : goal.returns-in-Some
returns-in-Some c = λ h.
    gives_same h (λ x. x) c.plant_hidden.result _ _
    (part_alone h c.args.n _ c.in-Some.hidden
    (half_alone c.args.self.leaves.items _ c.args.self.unknown.items _ c.in-Some.hidden c.as_slice.ensures.value
    c.as_slice-2.ensures.value c.in-Some.ensures))
    (c.plant_hidden.ensures h c.args.n)

pub returns-in_ok-planted-in-None : goal.returns-in_ok-planted-in-None
returns-in_ok-planted-in-None c = λ h.
    half_judged h c.args.n c.args.self.leaves.items c.args.self.unknown.items _ c.as_slice-in-None.ensures.value
    c.requires.order (half_open c.args.self.leaves.items _ c.args.self.unknown.items _ c.as_slice.ensures.value
    c.as_slice-2.ensures.value c.in-None.ensures)
    ∙ judged_ok h _ _ (c.in_ok-planted-in-None.ensures h)
