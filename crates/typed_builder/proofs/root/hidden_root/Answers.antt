use Rattle.std.proofs.Common.{◌≡◌, ℕ, ◌+◌, ◌-◌, ◌∙◌, List, [], ◌∷◌, ◌++◌, Option, None, Some, Ok, Err, drop, length}
use Rattle.std.proofs.Common.{map, sym, ap, subst, refl, rules, arith}
use Rattle.std.proofs.lemmas.Result.{err_from_is_err_and}
use Rattle.cell_nodes.specs.declared.tree.Tree.{Tree}
use Rattle.closed_type.specs.View.{closed_args, closed_type as type_view}
use Rattle.plan_building.specs.View.{grown, leaf_of, made, outputs_of}
use Rattle.plan_closing.specs.Counted.{scope_of}
use Rattle.plan_reading.specs.Shaped.{governed}
use Rattle.plan_reading.specs.StopLaws.{stops_at, stops_then}
use Rattle.spelling.specs.Goals as goals
use Rattle.spelling.specs.Places.{at_root, start, stuck}
use Rattle.spelling.specs.declared.Cause.TheVariants.{Shape}
use Rattle.typed_value.specs.View.{names_in, pair_of, pairs_of, value as value_view, vals_in}
use Rattle.typed_builder.specs.View.{core_of, list_of, maker_of, values_of}
use Rattle.typed_builder.proofs.Steps.{gives_err, gives_same}
use Rattle.spelling.specs.declared.Cause.TheVariants.{TooDeep}
use Rattle.typed_builder.proofs.Roots.{pruned_on, too_deep}
use Rattle.typed_builder.proofs.root.hidden_root.Goals as goal

pub returns-then-hidden-gt1024 : goal.returns-then-hidden-gt1024
returns-then-hidden-gt1024 c =
    stops_at at_root c.stop_here.result (stuck at_root TooDeep) _ (c.stop_here.ensures at_root)
    (too_deep c.args.hidden c.if-hidden-gt1024.true)
