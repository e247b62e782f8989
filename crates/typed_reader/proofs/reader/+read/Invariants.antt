use Rattle.std.proofs.Common.{◌≡◌, ◌+◌, ◌-◌, ◌*◌, drop, length, map}
use Rattle.std.specs.Vec.Iter.{into_iter_items, into_iter_len}
use Rattle.hashmap_tree.specs.Adds.{pair_of as leaf_of, slice_of}
use Rattle.plan_closing.specs.Counted.{scope_of}
use Rattle.closed_type.specs.View.{closed_type as type_view}
use Rattle.typed_value.specs.View.{pair_of, value}
use Rattle.typed_reader.specs.View.{reader_of}
use Rattle.typed_reader.proofs.Fields.{SoFar}
use Rattle.typed_reader.proofs.Leaves.{Paired}
use Rattle.typed_reader.proofs.Repeats.{Repeated}
use Rattle.typed_reader.proofs.reader.+read.Given as goal

abbrev pub decreases-read_closed : goal.decreases-read_closed
decreases-read_closed l = 8 * l.levels

abbrev pub decreases-read_field : goal.decreases-read_field
decreases-read_field l = 8 * l.levels

abbrev pub decreases-read_op : goal.decreases-read_op
decreases-read_op l = 8 * l.levels + 1

abbrev pub decreases-read_whole : goal.decreases-read_whole
decreases-read_whole l = 8 * l.levels + 1

abbrev pub decreases-read_fields : goal.decreases-read_fields
decreases-read_fields l = 8 * l.levels + 2

abbrev pub decreases-read_cell : goal.decreases-read_cell
decreases-read_cell l = 8 * l.levels + 2

abbrev pub decreases-read_leaves : goal.decreases-read_leaves
decreases-read_leaves l = 8 * l.levels + 2

abbrev pub decreases-read_repeat : goal.decreases-read_repeat
decreases-read_repeat l = 8 * l.levels + 2

abbrev pub decreases-read_fields_under : goal.decreases-read_fields_under
decreases-read_fields_under l = 8 * l.levels + 3

abbrev pub decreases-read_ref : goal.decreases-read_ref
decreases-read_ref l = 8 * l.levels + 3

abbrev pub decreases-read_constructor : goal.decreases-read_constructor
decreases-read_constructor l = 8 * l.levels + 3

abbrev pub decreases-read_dict : goal.decreases-read_dict
decreases-read_dict l = 8 * l.levels + 3

abbrev pub decreases-read_dict_e : goal.decreases-read_dict_e
decreases-read_dict_e l = 8 * l.levels + 3

abbrev pub decreases-read_declared : goal.decreases-read_declared
decreases-read_declared l = 8 * l.levels + 4

abbrev pub decreases-read_type : goal.decreases-read_type
decreases-read_type l = 8 * l.levels + 5

abbrev pub invariant-read_fields-loop-op : goal.invariant-read_fields-loop-op
invariant-read_fields-loop-op l =
    SoFar (reader_of l.levels l.mode l.plan.0) l.plan.1 l.ops (scope_of l.fn.env l.types) l.fn.begun (slice_of l.fn.s)
    (map pair_of l.fields) l.condition (drop l.op-index l.ops) (scope_of l.env l.types) l.begun (slice_of l.left)

abbrev pub invariant-read_repeat-loop-item : goal.invariant-read_repeat-loop-item
invariant-read_repeat-loop-item l =
    Repeated (reader_of l.levels l.mode l.plan.0) (type_view l.inner) l.count l.fn.begun (slice_of l.fn.s)
    (map value l.items) (l.count - l._item) l.begun (slice_of l.left)

abbrev pub invariant-read_leaves-loop-key : goal.invariant-read_leaves-loop-key
invariant-read_leaves-loop-key l = record {
  paired : Paired (reader_of l.levels l.mode l.plan.0) (type_view l.inner) (map leaf_of l.fn.leaves.items) l.fn.begun
      (map pair_of l.pairs) (map leaf_of (into_iter_items l.key-iterator)) l.begun;
  len : into_iter_len l.key-iterator ≡ length (into_iter_items l.key-iterator);
}
