use Rattle.std.proofs.Common.{◌+◌, ◌*◌, drop, map}
use Rattle.closed_type.specs.View.{closed_type as type_view}
use Rattle.plan_building.specs.View.{grown, leaf_of}
use Rattle.plan_closing.specs.Counted.{scope_of}
use Rattle.typed_value.specs.View.{pair_of}
use Rattle.typed_builder.specs.View.{maker_of, values_of}
use Rattle.typed_builder.proofs.Fields.{SoFar}
use Rattle.typed_builder.proofs.Leaves.{Leaved}
use Rattle.typed_builder.proofs.Lists.{Itemed}
use Rattle.typed_builder.proofs.builder.+build.Given as goal

-- a call goes to a lower rank, or to a level less
abbrev pub decreases-build_closed : goal.decreases-build_closed
decreases-build_closed l = 8 * l.levels

abbrev pub decreases-build_field : goal.decreases-build_field
decreases-build_field l = 8 * l.levels

abbrev pub decreases-build_under : goal.decreases-build_under
decreases-build_under l = 8 * l.levels + 2

abbrev pub decreases-build_record_ref : goal.decreases-build_record_ref
decreases-build_record_ref l = 8 * l.levels + 1

abbrev pub decreases-build_record_cell : goal.decreases-build_record_cell
decreases-build_record_cell l = 8 * l.levels

abbrev pub decreases-build_op : goal.decreases-build_op
decreases-build_op l = 8 * l.levels + 1

abbrev pub decreases-build_cell : goal.decreases-build_cell
decreases-build_cell l = 8 * l.levels + 1

abbrev pub decreases-build_items : goal.decreases-build_items
decreases-build_items l = 8 * l.levels + 1

abbrev pub decreases-build_leaves : goal.decreases-build_leaves
decreases-build_leaves l = 8 * l.levels + 1

abbrev pub decreases-build_fields : goal.decreases-build_fields
decreases-build_fields l = 8 * l.levels + 2

abbrev pub decreases-build_list : goal.decreases-build_list
decreases-build_list l = 8 * l.levels + 2

abbrev pub decreases-build_ref : goal.decreases-build_ref
decreases-build_ref l = 8 * l.levels + 2

abbrev pub decreases-build_dict : goal.decreases-build_dict
decreases-build_dict l = 8 * l.levels + 2

abbrev pub decreases-build_dict_e : goal.decreases-build_dict_e
decreases-build_dict_e l = 8 * l.levels + 2

abbrev pub decreases-build_constructor : goal.decreases-build_constructor
decreases-build_constructor l = 8 * l.levels + 3

abbrev pub decreases-build_inner : goal.decreases-build_inner
decreases-build_inner l = 8 * l.levels + 3

abbrev pub decreases-build_declared : goal.decreases-build_declared
decreases-build_declared l = 8 * l.levels + 4

abbrev pub decreases-build_type : goal.decreases-build_type
decreases-build_type l = 8 * l.levels + 6

abbrev pub decreases-build_record : goal.decreases-build_record
decreases-build_record l = 8 * l.levels + 5

abbrev pub decreases-build_series : goal.decreases-build_series
decreases-build_series l = 8 * l.levels + 3

abbrev pub decreases-build_held : goal.decreases-build_held
decreases-build_held l = 8 * l.levels + 3

abbrev pub decreases-build_map : goal.decreases-build_map
decreases-build_map l = 8 * l.levels + 3

abbrev pub invariant-build_items-loop-item : goal.invariant-build_items-loop-item
invariant-build_items-loop-item l =
    Itemed (maker_of l.levels l.mode l.plan.0) (type_view l.inner) l.items l.fn.begun (grown l.fn.b)
    (drop l.item-index l.items) l.begun (grown l.b)

abbrev pub invariant-build_leaves-loop-key : goal.invariant-build_leaves-loop-key
invariant-build_leaves-loop-key l =
    Leaved (maker_of l.levels l.mode l.plan.0) (type_view l.inner) (map pair_of l.pairs) l.fn.begun
    (map leaf_of l.leaves.items) (map pair_of (drop l.key-index l.pairs)) l.begun

abbrev pub invariant-build_fields-loop-op : goal.invariant-build_fields-loop-op
invariant-build_fields-loop-op l =
    SoFar (maker_of l.levels l.mode l.plan.0) l.plan.1 l.ops (scope_of l.fn.env l.types) l.fn.begun (values_of l.fields)
    (grown l.fn.b) l.condition (drop l.op-index l.ops) (scope_of l.env l.types) l.begun (values_of l.due) (grown l.b)
