use Rattle.std.proofs.Common.{◌∙◌, arith}
use Rattle.std.proofs.lemmas.Result.{err_from_is_err_and}
use Rattle.plan_building.specs.StopsLaws.{gives_same, stops_same}
use Rattle.plan_building.proofs.Halving.{judged_end, length_entries, no_entries, half_sides, some_entries, some_ones, some_zeros, stops_first, then_second}
use Rattle.plan_building.proofs.halves.+plant_half.Goals as goal

pub returns-then-n-eq0 : goal.returns-then-n-eq0
returns-then-n-eq0 t c = λ h.
    let l = length_entries c.args.half.leaves.items c.args.half.unknown.items in
    judged_end h c.args.n _ c.if-n-eq0.true c.requires.order (let s = c.requires.some in omega (arith, l, s)) c.requires.placed

pub plant_half-requires : goal.plant_half-requires
plant_half-requires t c =
    let s = half_sides c.args.n c.args.half.leaves.items c.args.half.unknown.items c.in_ok-sides.sides.0.leaves.items
    c.in_ok-sides.sides.0.unknown.items c.in_ok-sides.sides.1.leaves.items c.in_ok-sides.sides.1.unknown.items
    c.if-n-eq0.false c.requires.order c.requires.placed c.in_ok-sides.ensures.zeros c.in_ok-sides.ensures.ones in
    let none = (no_entries c.in_ok-sides.sides.1.leaves.items c.in_ok-sides.sides.1.unknown.items
    (c.is_empty.ensures.none c.if-is_empty.true)) in
    let some = some_zeros c.args.n c.args.half.leaves.items c.args.half.unknown.items c.in_ok-sides.sides.0.leaves.items
    c.in_ok-sides.sides.0.unknown.items _ s c.requires.some none in
    (omega arith, (omega arith, (s.zeros, (some, s.zeros_placed none))))

pub returns-then-is_empty : goal.returns-then-is_empty
returns-then-is_empty t c = λ h.
    let s = half_sides c.args.n c.args.half.leaves.items c.args.half.unknown.items c.in_ok-sides.sides.0.leaves.items
    c.in_ok-sides.sides.0.unknown.items c.in_ok-sides.sides.1.leaves.items c.in_ok-sides.sides.1.unknown.items
    c.if-n-eq0.false c.requires.order c.requires.placed c.in_ok-sides.ensures.zeros c.in_ok-sides.ensures.ones in
    gives_same h (λ x. x) c.plant_half.result _ _
    (s.no_ones h (no_entries c.in_ok-sides.sides.1.leaves.items c.in_ok-sides.sides.1.unknown.items
    (c.is_empty.ensures.none c.if-is_empty.true)))
    (c.plant_half.ensures h)

pub plant_half-requires-then-is_empty-2 : goal.plant_half-requires-then-is_empty-2
plant_half-requires-then-is_empty-2 t c =
    let s = half_sides c.args.n c.args.half.leaves.items c.args.half.unknown.items c.in_ok-sides.sides.0.leaves.items
    c.in_ok-sides.sides.0.unknown.items c.in_ok-sides.sides.1.leaves.items c.in_ok-sides.sides.1.unknown.items
    c.if-n-eq0.false c.requires.order c.requires.placed c.in_ok-sides.ensures.zeros c.in_ok-sides.ensures.ones in
    let none = (no_entries c.in_ok-sides.sides.0.leaves.items c.in_ok-sides.sides.0.unknown.items
    (c.is_empty-2.ensures.none c.if-is_empty-2.true)) in
    let some = some_ones c.args.n c.args.half.leaves.items c.args.half.unknown.items _ c.in_ok-sides.sides.1.leaves.items
    c.in_ok-sides.sides.1.unknown.items s c.requires.some none in
    (omega arith, (omega arith, (s.ones, (some, s.ones_placed none))))

pub returns-then-is_empty-2 : goal.returns-then-is_empty-2
returns-then-is_empty-2 t c = λ h.
    let s = half_sides c.args.n c.args.half.leaves.items c.args.half.unknown.items c.in_ok-sides.sides.0.leaves.items
    c.in_ok-sides.sides.0.unknown.items c.in_ok-sides.sides.1.leaves.items c.in_ok-sides.sides.1.unknown.items
    c.if-n-eq0.false c.requires.order c.requires.placed c.in_ok-sides.ensures.zeros c.in_ok-sides.ensures.ones in
    gives_same h (λ x. x) c.plant_half-then-is_empty-2.result _ _
    (s.no_zeros h (no_entries c.in_ok-sides.sides.0.leaves.items c.in_ok-sides.sides.0.unknown.items
    (c.is_empty-2.ensures.none c.if-is_empty-2.true)))
    (c.plant_half-then-is_empty-2.ensures h)

pub plant-requires-clause-order : goal.plant-requires-clause-order
plant-requires-clause-order t c =
    let s = half_sides c.args.n c.args.half.leaves.items c.args.half.unknown.items c.in_ok-sides.sides.0.leaves.items
    c.in_ok-sides.sides.0.unknown.items c.in_ok-sides.sides.1.leaves.items c.in_ok-sides.sides.1.unknown.items
    c.if-n-eq0.false c.requires.order c.requires.placed c.in_ok-sides.ensures.zeros c.in_ok-sides.ensures.ones in
    s.zeros

pub plant-requires-clause-places : goal.plant-requires-clause-places
plant-requires-clause-places t c =
    let s = half_sides c.args.n c.args.half.leaves.items c.args.half.unknown.items c.in_ok-sides.sides.0.leaves.items
    c.in_ok-sides.sides.0.unknown.items c.in_ok-sides.sides.1.leaves.items c.in_ok-sides.sides.1.unknown.items
    c.if-n-eq0.false c.requires.order c.requires.placed c.in_ok-sides.ensures.zeros c.in_ok-sides.ensures.ones in
    s.zeros_places

pub returns-in_err-plant : goal.returns-in_err-plant
returns-in_err-plant t c = λ h.
    let s = half_sides c.args.n c.args.half.leaves.items c.args.half.unknown.items c.in_ok-sides.sides.0.leaves.items
    c.in_ok-sides.sides.0.unknown.items c.in_ok-sides.sides.1.leaves.items c.in_ok-sides.sides.1.unknown.items
    c.if-n-eq0.false c.requires.order c.requires.placed c.in_ok-sides.ensures.zeros c.in_ok-sides.ensures.ones in
    let w = err_from_is_err_and c.from_residual-in_err-plant.result c.from_residual-in_err-plant.ensures.1 in
    rw (w.1, w.2) (stops_same h _ _ _
    (s.both h (some_entries c.in_ok-sides.sides.0.leaves.items c.in_ok-sides.sides.0.unknown.items
    (c.is_empty-2.ensures.some c.if-is_empty-2.false))
    (some_entries c.in_ok-sides.sides.1.leaves.items c.in_ok-sides.sides.1.unknown.items
    (c.is_empty.ensures.some c.if-is_empty.false)))
    (stops_first h _ _ _ (c.in_err-plant.ensures h)))

pub plant-requires-2-clause-order : goal.plant-requires-2-clause-order
plant-requires-2-clause-order t c =
    let s = half_sides c.args.n c.args.half.leaves.items c.args.half.unknown.items c.in_ok-sides.sides.0.leaves.items
    c.in_ok-sides.sides.0.unknown.items c.in_ok-sides.sides.1.leaves.items c.in_ok-sides.sides.1.unknown.items
    c.if-n-eq0.false c.requires.order c.requires.placed c.in_ok-sides.ensures.zeros c.in_ok-sides.ensures.ones in
    s.ones

pub plant-requires-2-clause-places : goal.plant-requires-2-clause-places
plant-requires-2-clause-places t c =
    let s = half_sides c.args.n c.args.half.leaves.items c.args.half.unknown.items c.in_ok-sides.sides.0.leaves.items
    c.in_ok-sides.sides.0.unknown.items c.in_ok-sides.sides.1.leaves.items c.in_ok-sides.sides.1.unknown.items
    c.if-n-eq0.false c.requires.order c.requires.placed c.in_ok-sides.ensures.zeros c.in_ok-sides.ensures.ones in
    s.ones_places

pub returns : goal.returns
returns t c = λ h.
    let s = half_sides c.args.n c.args.half.leaves.items c.args.half.unknown.items c.in_ok-sides.sides.0.leaves.items
    c.in_ok-sides.sides.0.unknown.items c.in_ok-sides.sides.1.leaves.items c.in_ok-sides.sides.1.unknown.items
    c.if-n-eq0.false c.requires.order c.requires.placed c.in_ok-sides.ensures.zeros c.in_ok-sides.ensures.ones in
    gives_same h (λ x. x) c.plant-2.result _ _
    (s.both h (some_entries c.in_ok-sides.sides.0.leaves.items c.in_ok-sides.sides.0.unknown.items
    (c.is_empty-2.ensures.some c.if-is_empty-2.false))
    (some_entries c.in_ok-sides.sides.1.leaves.items c.in_ok-sides.sides.1.unknown.items
    (c.is_empty.ensures.some c.if-is_empty.false)) ∙ then_second _ _ _ (c.in_ok-plant.ensures h))
    (c.plant-2.ensures h)
