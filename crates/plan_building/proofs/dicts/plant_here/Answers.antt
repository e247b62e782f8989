use Rattle.std.proofs.Common.{ap, map, ◌∙◌}
use Rattle.std.proofs.lemmas.Result.{err_from_is_err_and}
use Rattle.building.specs.PlainBuilder.{is_last}
use Rattle.hashmap_tree.specs.Plants.{held_of}
use Rattle.plan_building.specs.StopsLaws.{gives_same, stops_where}
use Rattle.plan_building.specs.View.{grown, leaf_of, made}
use Rattle.plan_building.proofs.Fitting.{edge_ready, entries_same, some_cells}
use Rattle.plan_building.proofs.Planting.{here_parts_rest, here_parts_stop, here_planted_stop, here_put}
use Rattle.plan_building.proofs.dicts.plant_here.Goals as goal

pub plant_parts-requires-clause-order : goal.plant_parts-requires-clause-order
plant_parts-requires-clause-order c =
    let f = edge_ready c.requires.fits.0 c.args.n c.args.leaves.items c.in_ok-leaves.leaves.items c.args.unknown.now
    c.in_ok-leaves.ensures c.requires.fits.1 in f.order

pub plant_parts-requires-clause-some : goal.plant_parts-requires-clause-some
plant_parts-requires-clause-some c =
    let f = edge_ready c.requires.fits.0 c.args.n c.args.leaves.items c.in_ok-leaves.leaves.items c.args.unknown.now
    c.in_ok-leaves.ensures c.requires.fits.1 in some_cells c.in_ok-leaves.leaves.items c.args.unknown.now f.some

pub plant_parts-requires-clause-placed : goal.plant_parts-requires-clause-placed
plant_parts-requires-clause-placed c =
    let f = edge_ready c.requires.fits.0 c.args.n c.args.leaves.items c.in_ok-leaves.leaves.items c.args.unknown.now
    c.in_ok-leaves.ensures c.requires.fits.1 in f.placed

pub returns-in_err-plant_parts : goal.returns-in_err-plant_parts
returns-in_err-plant_parts c = λ h.
    let w = err_from_is_err_and c.from_residual-in_err-plant_parts.result c.from_residual-in_err-plant_parts.ensures.1 in
    rw (w.1, w.2) (here_parts_stop h c.args.n _ _ _ _ _
    (entries_same c.args.leaves.items c.in_ok-leaves.leaves.items c.args.unknown.now c.in_ok-leaves.ensures)
    (c.in_err-plant_parts.ensures h))

pub returns-then-b : goal.returns-then-b
returns-then-b c = λ h.
    stops_where h c.stop_here.result _ _
    (here_parts_rest h c.args.n _ _ _ (grown c.args.b.now)
    (entries_same c.args.leaves.items c.in_ok-leaves.leaves.items c.args.unknown.now c.in_ok-leaves.ensures)
    c.if-b.true (c.in_ok-plant_parts.ensures h))
    (c.stop_here.ensures h)

pub planted-requires-clause-order : goal.planted-requires-clause-order
planted-requires-clause-order c =
    let f = edge_ready c.requires.fits.0 c.args.n c.args.leaves.items c.in_ok-leaves.leaves.items c.args.unknown.now
    c.in_ok-leaves.ensures c.requires.fits.1 in f.order

pub planted-requires-clause-some : goal.planted-requires-clause-some
planted-requires-clause-some c =
    let f = edge_ready c.requires.fits.0 c.args.n c.args.leaves.items c.in_ok-leaves.leaves.items c.args.unknown.now
    c.in_ok-leaves.ensures c.requires.fits.1 in some_cells c.in_ok-leaves.leaves.items c.args.unknown.now f.some

pub planted-requires-clause-placed : goal.planted-requires-clause-placed
planted-requires-clause-placed c =
    let f = edge_ready c.requires.fits.0 c.args.n c.args.leaves.items c.in_ok-leaves.leaves.items c.args.unknown.now
    c.in_ok-leaves.ensures c.requires.fits.1 in f.placed

pub returns-in_err-content : goal.returns-in_err-content
returns-in_err-content c = λ h.
    let w = err_from_is_err_and c.from_residual-in_err-content.result c.from_residual-in_err-content.ensures.1 in
    rw (w.1, w.2) (here_planted_stop h c.args.n _ _ _ (grown c.args.b.now) _
    (entries_same c.args.leaves.items c.in_ok-leaves.leaves.items c.args.unknown.now c.in_ok-leaves.ensures)
    c.if-b.false (c.in_err-content.ensures h))

pub returns : goal.returns
returns c = λ h.
    gives_same h (made c.put_content.new.b) c.put_content.result _ _
    (here_put h c.args.n _ _ _ c.is_last-last.result (grown c.args.b.now) (held_of c.in_ok-content.content)
    (entries_same c.args.leaves.items c.in_ok-leaves.leaves.items c.args.unknown.now c.in_ok-leaves.ensures)
    c.if-b.false (c.in_ok-content.ensures h)
    (c.is_last-last.ensures ∙ ap (λ l. is_last (map leaf_of l) c.args.unknown.now) c.as_slice.ensures.value))
    (c.put_content.ensures h)
