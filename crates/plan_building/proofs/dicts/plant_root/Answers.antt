use Rattle.std.proofs.lemmas.Result.{err_from_is_err_and}
use Rattle.hashmap_tree.specs.Plants.{held_of}
use Rattle.plan_building.specs.StopsLaws.{gives_same}
use Rattle.plan_building.specs.View.{grown, made}
use Rattle.plan_building.proofs.Fitting.{alone_moved, entries_same, none_entries, refuted, root_placed, root_ready, some_of_cells, some_slice}
use Rattle.plan_building.proofs.Planting.{root_alone_of, root_none, root_planted_stop, root_put_of}
use Rattle.plan_building.proofs.dicts.plant_root.Goals as goal

pub planted-requires-clause-order : goal.planted-requires-clause-order
planted-requires-clause-order c =
    let f = root_ready c.requires.fits.0 c.args.n c.args.leaves.items c.in_ok-leaves.leaves.items c.args.unknown.now
    c.in_ok-leaves.ensures c.requires.fits.1 in f.order

pub planted-requires-clause-some : goal.planted-requires-clause-some
planted-requires-clause-some c =
    some_slice c.in_ok-leaves.leaves.items _ c.args.unknown.now c.as_slice.ensures.value
    (refuted _ c.if-has_none.false c.has_none.ensures)

pub planted-requires-clause-placed : goal.planted-requires-clause-placed
planted-requires-clause-placed c =
    let f = root_ready c.requires.fits.0 c.args.n c.args.leaves.items c.in_ok-leaves.leaves.items c.args.unknown.now
    c.in_ok-leaves.ensures c.requires.fits.1 in
    let alone = alone_moved c.in_ok-leaves.leaves.items _ c.args.unknown.now c.as_slice-2.ensures.value c.in_default.ensures in
    root_placed c.requires.fits.0 c.args.n _ f alone

pub returns-in_err-content : goal.returns-in_err-content
returns-in_err-content c = λ h.
    let f = root_ready c.requires.fits.0 c.args.n c.args.leaves.items c.in_ok-leaves.leaves.items c.args.unknown.now
    c.in_ok-leaves.ensures c.requires.fits.1 in
    let alone = alone_moved c.in_ok-leaves.leaves.items _ c.args.unknown.now c.as_slice-2.ensures.value c.in_default.ensures in
    let some = some_slice c.in_ok-leaves.leaves.items _ c.args.unknown.now c.as_slice.ensures.value
    (refuted _ c.if-has_none.false c.has_none.ensures) in
    let w = err_from_is_err_and c.from_residual-in_err-content.result c.from_residual-in_err-content.ensures.1 in
    rw (w.1, w.2) (root_planted_stop h c.args.n _ _ (grown c.args.b.now) _
    (entries_same c.args.leaves.items c.in_ok-leaves.leaves.items c.args.unknown.now c.in_ok-leaves.ensures)
    f.order (some_of_cells c.in_ok-leaves.leaves.items c.args.unknown.now some) alone (c.in_err-content.ensures h))

pub returns-then-has_none : goal.returns-then-has_none
returns-then-has_none c = λ h.
    gives_same h (made c.put_empty.new.b) c.put_empty.result _ _
    (root_none h c.args.n _ (grown c.args.b.now)
    (none_entries c.args.leaves.items c.in_ok-leaves.leaves.items _ c.args.unknown.now c.in_ok-leaves.ensures
    c.as_slice.ensures.value (c.has_none.ensures.0 c.if-has_none.true)))
    (c.put_empty.ensures h)

pub returns-in-Some : goal.returns-in-Some
returns-in-Some c = λ h.
    gives_same h (made c.put_hidden_root.new.b) c.put_hidden_root.result _ _
    (root_alone_of h c.args.n c.in_ok-leaves.leaves.items _ c.args.unknown.now _ c.in-Some.hidden (grown c.args.b.now)
    (entries_same c.args.leaves.items c.in_ok-leaves.leaves.items c.args.unknown.now c.in_ok-leaves.ensures)
    c.as_slice-2.ensures.value c.in-Some.ensures)
    (c.put_hidden_root.ensures h)

pub returns : goal.returns
returns c = λ h.
    let f = root_ready c.requires.fits.0 c.args.n c.args.leaves.items c.in_ok-leaves.leaves.items c.args.unknown.now
    c.in_ok-leaves.ensures c.requires.fits.1 in
    let alone = alone_moved c.in_ok-leaves.leaves.items _ c.args.unknown.now c.as_slice-2.ensures.value c.in_default.ensures in
    let some = some_slice c.in_ok-leaves.leaves.items _ c.args.unknown.now c.as_slice.ensures.value
    (refuted _ c.if-has_none.false c.has_none.ensures) in
    gives_same h (made c.put_root.new.b) c.put_root.result _ _
    (root_put_of h c.args.n _ _ (grown c.args.b.now) (held_of c.in_ok-content.content) c.in_ok-finish.field-0
    (entries_same c.args.leaves.items c.in_ok-leaves.leaves.items c.args.unknown.now c.in_ok-leaves.ensures)
    f.order (some_of_cells c.in_ok-leaves.leaves.items c.args.unknown.now some) alone (c.in_ok-content.ensures h)
    c.in_ok-finish.ensures)
    (c.put_root.ensures h)
