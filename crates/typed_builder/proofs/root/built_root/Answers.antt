use Rattle.std.proofs.Common.{◌≡◌, ℕ, ◌+◌, ◌-◌, ◌∙◌, List, [], ◌∷◌, ◌++◌, Option, None, Some, Ok, Err, drop, length}
use Rattle.std.proofs.Common.{map, sym, ap, subst, refl, rules, arith}
use Rattle.std.proofs.lemmas.Result.{err_from_is_err_and}
use Rattle.cell_nodes.specs.declared.tree.Tree.{Tree}
use Rattle.closed_type.specs.View.{closed_args, closed_type as type_view}
use Rattle.plan_building.specs.View.{grown, leaf_of, made, outputs_of}
use Rattle.plan_closing.specs.Counted.{scope_of}
use Rattle.plan_reading.specs.Shaped.{governed}
use Rattle.plan_reading.specs.StopLaws.{stops_at, stops_then}
use Rattle.spelling.specs.Goals as goals
use Rattle.spelling.specs.Places.{at_root, start, stuck}
use Rattle.spelling.specs.declared.Cause.TheVariants.{Shape}
use Rattle.typed_value.specs.View.{names_in, pair_of, pairs_of, value as value_view, vals_in}
use Rattle.typed_builder.specs.View.{core_of, list_of, maker_of, values_of}
use Rattle.typed_builder.proofs.Steps.{gives_err, gives_same}
use Rattle.typed_builder.proofs.Roots.{hidden_is, open_is}
use Rattle.typed_builder.proofs.root.built_root.Goals as goal

pub returns-in-Some : goal.returns-in-Some
returns-in-Some c =
    gives_same at_root (λ (z : Tree). z) c.hidden_root.result _ _
    (hidden_is c.args.mode (core_of c.args.plan.now.0) (type_view c.args.ty.now) (value_view c.args.value.now)
    c.in-Some.hidden
    (sym c.in-Some.ensures)) c.hidden_root.ensures

pub returns : goal.returns
returns c =
    gives_same at_root (λ (z : Tree). z) c.build_cell.result _ _
    (open_is c.args.mode (core_of c.args.plan.now.0) (type_view c.args.ty.now) (value_view c.args.value.now)
    (sym c.in_default.ensures)) (c.build_cell.ensures.gives at_root)
