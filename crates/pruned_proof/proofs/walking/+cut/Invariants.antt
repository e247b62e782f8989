use Rattle.std.proofs.Common.{◌+◌, ◌*◌, List, None, drop, length, map}
use Rattle.cell_nodes.specs.declared.tree.Tree.{Tree}
use Rattle.closed_type.specs.View.{closed_type as type_view}
use Rattle.core_form.specs.Scope.{Scope}
use Rattle.flat_form.specs.Sound.{OpsAreSound}
use Rattle.flat_form.specs.Stands.{items_in, type_at}
use Rattle.hashmap_tree.specs.Entries.{Slice}
use Rattle.plan_closing.specs.Counted.{scope_of}
use Rattle.plan_reading.specs.Shaped.{GovernIsSound, governed}
use Rattle.schema_leads.specs.Tags.{cores}
use Rattle.tlb_syntax.specs.View.{schema as schema_view}
use Rattle.typed_value.specs.View.{pair_of, value as value_view}
use Rattle.pruned_proof.specs.View.{rests_of}
use Rattle.pruned_proof.specs.Walks.{Due, DueItems}
use Rattle.pruned_proof.proofs.walking.+cut.Given as goal

abbrev pub decreases-cut_value : goal.decreases-cut_value
decreases-cut_value l = 4096 * l.levels

abbrev pub decreases-cut_inner : goal.decreases-cut_inner
decreases-cut_inner l = 4096 * l.levels + 1

abbrev pub decreases-cut_cell : goal.decreases-cut_cell
decreases-cut_cell l = 4096 * l.levels + 1

abbrev pub decreases-cut_items : goal.decreases-cut_items
decreases-cut_items l = 4096 * l.levels + 1

abbrev pub decreases-cut_ref : goal.decreases-cut_ref
decreases-cut_ref l = 4096 * l.levels + 2

abbrev pub decreases-cut_under : goal.decreases-cut_under
decreases-cut_under l = 4096 * l.levels + 2

abbrev pub decreases-cut_field : goal.decreases-cut_field
decreases-cut_field l = 4096 * l.levels + 3

abbrev pub decreases-cut_op : goal.decreases-cut_op
decreases-cut_op l = 4096 * l.levels + 4

abbrev pub decreases-cut_fields : goal.decreases-cut_fields
decreases-cut_fields l = 4096 * l.levels + 5

abbrev pub decreases-cut_declared : goal.decreases-cut_declared
decreases-cut_declared l = 4096 * l.levels + 6

abbrev pub decreases-cut_edge : goal.decreases-cut_edge
decreases-cut_edge l = 4096 * l.levels + 2 * l.left + 1

abbrev pub decreases-cut_branch : goal.decreases-cut_branch
decreases-cut_branch l = 4096 * l.levels + 2 * l.left + 2

abbrev pub decreases-cut_root_edge : goal.decreases-cut_root_edge
decreases-cut_root_edge l = 4096 * l.levels + 2049

abbrev pub decreases-cut_held : goal.decreases-cut_held
decreases-cut_held l = 4096 * l.levels + 3

abbrev pub decreases-cut_list : goal.decreases-cut_list
decreases-cut_list l = 4096 * l.levels + 2

abbrev pub decreases-cut_map : goal.decreases-cut_map
decreases-cut_map l = 4096 * l.levels + 2051

abbrev pub decreases-cut_map_under : goal.decreases-cut_map_under
decreases-cut_map_under l = 4096 * l.levels + 2050

abbrev pub decreases-cut_record : goal.decreases-cut_record
decreases-cut_record l = 4096 * l.levels + 7

abbrev pub invariant-cut_fields-loop-op : goal.invariant-cut_fields-loop-op
invariant-cut_fields-loop-op l = record {
  sound : OpsAreSound l.plan.1 (length l.plan.1.types) (drop l.op-index l.ops);
  condition : GovernIsSound l.plan.1 l.condition;
  due : (end : Scope) (after : Slice) (all : List Tree)
      → Due (cores (schema_view l.plan.0)) (rests_of l.wanted) l.levels end after all
      (items_in l.plan.1 (type_at l.plan.1) None l.ops) (scope_of l.fn.env l.types) (map pair_of l.fields) l.fn.cell
      → Due (cores (schema_view l.plan.0)) (rests_of l.wanted) l.levels end after all
      (items_in l.plan.1 (type_at l.plan.1) (governed l.plan.1 l.condition) (drop l.op-index l.ops)) (scope_of l.env l.types)
      (map pair_of l.due) l.cell;
}

abbrev pub invariant-cut_items-loop-item : goal.invariant-cut_items-loop-item
invariant-cut_items-loop-item l =
    (after : Slice) (all : List Tree)
    → DueItems (cores (schema_view l.plan.0)) (rests_of l.wanted) l.levels (type_view l.inner) after all 0
    (map value_view l.items) l.fn.cell
    → DueItems (cores (schema_view l.plan.0)) (rests_of l.wanted) l.levels (type_view l.inner) after all l.place
    (map value_view (drop l.item-index l.items)) l.cell
