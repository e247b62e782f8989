use Rattle.std.proofs.Common.{◌≡◌, ℕ, ◌+◌, ◌-◌, ◌∙◌, List, [], ◌∷◌, ◌++◌, Option, None, Some, Ok, Err, drop, length}
use Rattle.std.proofs.Common.{map, sym, ap, subst, refl, rules, arith}
use Rattle.std.proofs.lemmas.Result.{err_from_is_err_and}
use Rattle.cell_nodes.specs.declared.tree.Tree.{Tree}
use Rattle.closed_type.specs.View.{closed_args, closed_type as type_view}
use Rattle.plan_building.specs.View.{grown, leaf_of, made, outputs_of}
use Rattle.plan_closing.specs.Counted.{scope_of}
use Rattle.plan_reading.specs.Shaped.{governed}
use Rattle.plan_reading.specs.StopLaws.{stops_at, stops_then}
use Rattle.spelling.specs.Goals as goals
use Rattle.spelling.specs.Places.{at_root, start, stuck}
use Rattle.spelling.specs.declared.Cause.TheVariants.{Shape}
use Rattle.typed_value.specs.View.{names_in, pair_of, pairs_of, value as value_view, vals_in}
use Rattle.typed_builder.specs.View.{core_of, list_of, maker_of, values_of}
use Rattle.typed_builder.proofs.Steps.{gives_err, gives_same}
use Rattle.typed_builder.proofs.Roots.{root_on, root_sprawls, root_stops}
use Rattle.typed_builder.proofs.root.build_root.Goals as goal

pub returns-in_err-cell : goal.returns-in_err-cell
returns-in_err-cell c =
    let p = err_from_is_err_and c.from_residual.result c.from_residual.ensures.1 in
    gives_err at_root (λ (z : Tree). z) c.from_residual.result c.in_err-cell.field-0.0 _ (p.1 ∙ ap Err p.2)
    (root_stops c.args.mode (core_of c.args.plan.now.0) (type_view c.args.ty.now) (value_view c.args.value.now)
    c.in_err-cell.field-0.0
    c.in_err-cell.ensures)

pub returns-then-unfolded-gt-MOST_CELLS : goal.returns-then-unfolded-gt-MOST_CELLS
returns-then-unfolded-gt-MOST_CELLS c =
    let many = c.if-unfolded-gt-MOST_CELLS.true in
    let is = c.unfolded.ensures.value in
    root_sprawls c.args.mode (core_of c.args.plan.now.0) (type_view c.args.ty.now) (value_view c.args.value.now)
    c.in_ok-cell.cell
    c.stop_here.result c.in_ok-cell.ensures (omega (arith, many, is)) (c.stop_here.ensures at_root)

pub returns : goal.returns
returns c =
    let few = c.if-unfolded-gt-MOST_CELLS.false in
    let is = c.unfolded.ensures.value in
    root_on c.args.mode (core_of c.args.plan.now.0) (type_view c.args.ty.now) (value_view c.args.value.now)
    c.in_ok-cell.cell
    c.in_ok-cell.ensures (omega (arith, few, is))
