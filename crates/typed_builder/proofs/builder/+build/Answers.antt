use Rattle.building.specs.Growing.{Grown}
use Rattle.building.specs.PlainBuilder.{has_fields, list_at, make_fields, make_inside, make_leaves, record_at as named_at, ref_at}
use Rattle.cell_nodes.specs.declared.tree.Tree.{Tree}
use Rattle.closed_type.specs.View.{closed_args, closed_type as type_view}
use Rattle.core_form.specs.Core.{Declaration, Word, check, sets}
use Rattle.core_form.specs.Scope.{Scope, bind}
use Rattle.flat_form.specs.Stands.{expr_at, items_in, name_at, record_at, slot_of, type_at}
use Rattle.flat_form.specs.declared.lists.Flat.{Flat}
use Rattle.flat_form.specs.declared.lists.PlanOp.TheVariants.{Check, Field, Solve}
use Rattle.hashmap_tree.specs.Entries.{Slice}
use Rattle.nat_solver.specs.declared.compare.Op.TheVariants.{Eq}
use Rattle.plan_building.specs.View.{grown, leaf_of, made, outputs_of}
use Rattle.plan_building.specs.declared.growing.Growing.{Growing}
use Rattle.plan_closing.specs.Counted.{scope_of}
use Rattle.plan_reading.specs.Gives.{unchanged}
use Rattle.plan_reading.specs.Shaped.{governed}
use Rattle.plan_reading.specs.Slots.{slots_view}
use Rattle.plan_reading.specs.StopLaws.{stops_at, stops_moved, stops_then}
use Rattle.plan_reading.specs.Stops.{Stops, StopsAt}
use Rattle.spelling.specs.Places.{at_root, field_of, item_of, start, stuck}
use Rattle.spelling.specs.PlainReader.{step}
use Rattle.spelling.specs.Slices.{nothing}
use Rattle.spelling.specs.declared.Cause.TheVariants.{Shape, Width}
use Rattle.spelling.specs.declared.Cause.{Cause}
use Rattle.core_form.specs.Closed.{Closed}
use Rattle.tlb_syntax.specs.View.{schema as schema_view}
use Rattle.typed_value.specs.Values.{record_of}
use Rattle.std.proofs.Common.{Err, List, false, true, slice_get, None, Ok, Option, Some, [], ap, arith, drop, get_or}
use Rattle.std.proofs.Common.{length, map, refl, rules, subst, sym, ℕ, ◌++◌, ◌+◌, ◌-◌, ◌∙◌, ◌∷◌, ◌≡◌}
use Rattle.std.proofs.lemmas.Bool.{eq-eqb, eqb-true}
use Rattle.std.proofs.lemmas.Option.{same_Some}
use Rattle.std.proofs.lemmas.Result.{err_from_is_err_and}
use Rattle.typed_builder.proofs.Declared.{no_name, none_enters, one_enters, one_misnamed, inner_misnamed, inner_on}
use Rattle.typed_builder.proofs.Declared.{inner_stops, inside_on, inside_overflows, inside_stops, tag_stops}
use Rattle.typed_builder.proofs.Fields.{SoFar, all_counted, all_made, at_end, at_op, none_yet, one_more, one_stops}
use Rattle.typed_builder.proofs.Fields.{some_due}
use Rattle.typed_builder.proofs.Leaves.{Leaved, all_leaved, at_last, at_pair, leaf_stops, none_leaved, one_leaved}
use Rattle.typed_builder.proofs.Levels.{begin_stops, making_refused, making_shaped, making_too_wide, making_typed}
use Rattle.typed_builder.proofs.Levels.{within}
use Rattle.typed_builder.proofs.Lists.{at_item, at_last as at_last_item, idle_stops, item_stops, list_not, list_on}
use Rattle.typed_builder.proofs.Lists.{list_stops, none_itemed, one_itemed}
use Rattle.typed_builder.proofs.Maps.{dict_e_not, dict_e_on, dict_e_stops, dict_not, dict_on, dict_stops, fit_edge}
use Rattle.typed_builder.proofs.Maps.{fit_root}
use Rattle.typed_builder.proofs.Refs.{child_crowded, child_on, child_stops, inner_begins, inner_on as record_on}
use Rattle.typed_builder.proofs.Refs.{inner_stops as record_stops, typed_on, typed_stops, whole_on, whole_stops}
use Rattle.typed_builder.proofs.Choosing.{chosen_at, named_none}
use Rattle.typed_builder.proofs.Planned.{had, plan_there}
use Rattle.typed_builder.proofs.Shown.{as_record}
use Rattle.typed_builder.proofs.Shapes.{here_sound, shape_not, shape_on, under_sound}
use Rattle.typed_builder.proofs.Steps.{gives_err, gives_same, stops_same}
use Rattle.typed_builder.proofs.Turned.{check_stops, check_turned, field_missing, field_stops, field_turned, no_reader}
use Rattle.typed_builder.proofs.Turned.{solve_stops, solve_turned, stops_as, turns_as}
use Rattle.typed_builder.specs.View.{core_of, list_of, maker_of, values_of}
use Rattle.typed_value.specs.View.{names_in, pair_of, pairs_of, vals_in, value as value_view}
use Rattle.typed_value.specs.declared.value.Value.{Value, the_lemmas}
use Rattle.spelling.specs.Goals as goals
use Rattle.typed_builder.proofs.builder.+build.Goals as goal

pub build_closed-returns-clause-gives : goal.build_closed-returns-clause-gives
build_closed-returns-clause-gives t c =
    λ h. gives_same h (made c.build_type.new.b) c.build_type.result _ _
    (making_typed c.args.levels c.args.mode (core_of c.args.plan.now.0) h (type_view c.args.ty.now) c.args.begun.now _
    (value_view c.args.value.now) (grown c.args.b.now) (c.in_ok-begin.ensures.begins h) (sym c.if-not-in_table.ensures))
    (c.build_type.ensures.gives h)

pub build_closed-returns-in_err-begin-clause-gives : goal.build_closed-returns-in_err-begin-clause-gives
build_closed-returns-in_err-begin-clause-gives t c =
    let p = err_from_is_err_and c.from_residual.result c.from_residual.ensures.1 in
    λ h. gives_err h (made c.args.b.now) c.from_residual.result c.in_err-begin.field-0.0 _ (p.1 ∙ ap Err p.2)
    (begin_stops c.args.levels c.args.mode (core_of c.args.plan.now.0) h (goals.at_type (type_view c.args.ty.now))
    c.args.begun.now
    (value_view c.args.value.now) (grown c.args.b.now) c.in_err-begin.field-0.0 (c.in_err-begin.ensures.begins h))

pub build_closed-returns-then-not-in_table-clause-gives : goal.build_closed-returns-then-not-in_table-clause-gives
build_closed-returns-then-not-in_table-clause-gives t c =
    λ h. stops_at h c.stop_here.result (stuck h Width) _ (c.stop_here.ensures h)
    (making_too_wide c.args.levels c.args.mode (core_of c.args.plan.now.0) h (type_view c.args.ty.now) c.args.begun.now
    _
    (value_view c.args.value.now) (grown c.args.b.now) (c.in_ok-begin.ensures.begins h) (sym c.if-not-in_table.ensures))

pub build_cell-returns-in_err-begin-clause-gives : goal.build_cell-returns-in_err-begin-clause-gives
build_cell-returns-in_err-begin-clause-gives t c =
    let p = err_from_is_err_and c.from_residual.result c.from_residual.ensures.1 in
    λ h. gives_err h (λ (z : Tree). z) c.from_residual.result c.in_err-begin.field-0.0 _ (p.1 ∙ ap Err p.2)
    (whole_stops c.args.levels c.args.mode (core_of c.args.plan.now.0) h (type_view c.args.inner.now) c.args.begun.now
    (value_view c.args.value.now) c.in_err-begin.field-0.0 (sym c.if-is_whole.ensures)
    (c.in_err-begin.ensures.begins h))

pub build_cell-returns-then-is_whole-clause-gives : goal.build_cell-returns-then-is_whole-clause-gives
build_cell-returns-then-is_whole-clause-gives t c =
    λ h. gives_same h (λ (z : Tree). z) c.whole_cell.result _ _
    (whole_on c.args.levels c.args.mode (core_of c.args.plan.now.0) h (type_view c.args.inner.now) c.args.begun.now
    c.begin.new.begun (value_view c.args.value.now) (sym c.if-is_whole.ensures) (c.in_ok-begin.ensures.begins h))
    (c.whole_cell.ensures.gives (core_of c.args.plan.now.0) (within c.args.levels c.args.mode
    (core_of c.args.plan.now.0)) h
    c.begin.new.begun)

pub build_cell-returns-in_err-build_closed-clause-gives : goal.build_cell-returns-in_err-build_closed-clause-gives
build_cell-returns-in_err-build_closed-clause-gives t c =
    let p = err_from_is_err_and c.from_residual-in_err-build_closed.result
    c.from_residual-in_err-build_closed.ensures.1 in
    λ h. gives_err h (λ (z : Tree). z) c.from_residual-in_err-build_closed.result c.in_err-build_closed.field-0.0 _
    (p.1 ∙ ap Err p.2)
    (typed_stops (maker_of c.args.levels c.args.mode c.args.plan.now.0) h (type_view c.args.inner.now) c.args.begun.now
    (value_view c.args.value.now) (grown c.in_ok-content.content) c.in_err-build_closed.field-0.0
    (sym c.if-is_whole.ensures)
    c.in_ok-content.ensures (c.in_err-build_closed.ensures.gives h))

pub build_cell-returns-clause-gives : goal.build_cell-returns-clause-gives
build_cell-returns-clause-gives t c =
    λ h. typed_on (maker_of c.args.levels c.args.mode c.args.plan.now.0) h (type_view c.args.inner.now) c.args.begun.now
    (value_view c.args.value.now) (grown c.in_ok-content.content)
    (made c.build_closed.new.b c.in_ok-build_closed.field-0)
    c.in_ok-finish.field-0 (sym c.if-is_whole.ensures) c.in_ok-content.ensures (c.in_ok-build_closed.ensures.gives h)
    c.in_ok-finish.ensures

pub build_ref-returns-in_err-cell-clause-gives : goal.build_ref-returns-in_err-cell-clause-gives
build_ref-returns-in_err-cell-clause-gives t c =
    let p = err_from_is_err_and c.from_residual.result c.from_residual.ensures.1 in
    λ h. gives_err h (made c.args.b.now) c.from_residual.result c.in_err-cell.field-0.0 _ (p.1 ∙ ap Err p.2)
    (child_stops (maker_of c.args.levels c.args.mode c.args.plan.now.0) h (goals.under_ref (type_view c.args.inner.now))
    c.args.begun.now
    (value_view c.args.value.now) (grown c.args.b.now) c.in_err-cell.field-0.0 (c.in_err-cell.ensures.gives h))

pub build_ref-returns-in_err-put_ref-clause-gives : goal.build_ref-returns-in_err-put_ref-clause-gives
build_ref-returns-in_err-put_ref-clause-gives t c =
    let p = err_from_is_err_and c.from_residual-in_err-put_ref.result c.from_residual-in_err-put_ref.ensures.1 in
    λ h. gives_err h (made c.put_ref.new.b) c.from_residual-in_err-put_ref.result c.in_err-put_ref.field-0.0 _
    (p.1 ∙ ap Err p.2)
    (child_crowded (maker_of c.args.levels c.args.mode c.args.plan.now.0) h
    (goals.under_ref (type_view c.args.inner.now)) c.args.begun.now
    (value_view c.args.value.now) (grown c.args.b.now) c.in_ok-cell.cell c.in_err-put_ref.field-0.0
    (c.in_ok-cell.ensures.gives h)
    (c.in_err-put_ref.ensures h))

pub build_ref-returns-clause-gives : goal.build_ref-returns-clause-gives
build_ref-returns-clause-gives t c =
    λ h. child_on (maker_of c.args.levels c.args.mode c.args.plan.now.0) h
    (goals.under_ref (type_view c.args.inner.now)) c.args.begun.now
    (value_view c.args.value.now) (grown c.args.b.now) c.in_ok-cell.cell (grown c.put_ref.new.b)
    (c.in_ok-cell.ensures.gives h)
    (c.in_ok-put_ref.ensures h)

pub build_items-loop-item-init : goal.build_items-loop-item-init
build_items-loop-item-init t c =
    none_itemed (maker_of c.args.levels c.args.mode c.args.plan.now.0) (type_view c.args.inner.now) c.args.items.now
    c.args.begun.now
    (grown c.args.b.now)

pub build_items-loop-item-preserved : goal.build_items-loop-item-preserved
build_items-loop-item-preserved t c =
    let at = c.loop-item in
    let R = maker_of c.args.levels c.args.mode c.args.plan.now.0 in
    let t = type_view c.args.inner.now in
    let i = at_item R t c.args.items.now c.args.begun.now (grown c.args.b.now) c.item-item.result at.item-index at.begun
    (grown at.b)
    c.loop-item-test.true c.item-item.is at.invariant in
    let taken = sym (c.grew.ensures (grown at.b) c.size-before.ensures) ∙ c.if-not-grew.false in
    one_itemed R t c.args.items.now c.args.begun.now (grown c.args.b.now) c.item-item.result
    (drop (at.item-index + 1) c.args.items.now)
    at.begun c.build_closed.new.begun (grown at.b) (made c.build_closed.new.b c.in_ok-build_closed.field-0) i
    c.in_ok-build_closed.ensures.gives taken c.in_ok-build_closed.ensures.counts

pub build_items-returns-in_err-build_closed-clause-gives : goal.build_items-returns-in_err-build_closed-clause-gives
build_items-returns-in_err-build_closed-clause-gives t c =
    let p = err_from_is_err_and c.from_residual.result c.from_residual.ensures.1 in
    let at = c.loop-item in
    let R = maker_of c.args.levels c.args.mode c.args.plan.now.0 in
    let t = type_view c.args.inner.now in
    let i = at_item R t c.args.items.now c.args.begun.now (grown c.args.b.now) c.item-item.result at.item-index at.begun
    (grown at.b)
    c.loop-item-test.true c.item-item.is at.invariant in
    λ h. gives_err h _ c.from_residual.result c.in_err-build_closed.field-0.0 _ (p.1 ∙ ap Err p.2)
    (item_stops R t c.args.items.now c.args.begun.now (grown c.args.b.now) c.item-item.result
    (drop (at.item-index + 1) c.args.items.now)
    at.begun (grown at.b) h c.in_err-build_closed.field-0.0 i (c.in_err-build_closed.ensures.gives h))

pub build_items-returns-then-not-grew-clause-gives : goal.build_items-returns-then-not-grew-clause-gives
build_items-returns-then-not-grew-clause-gives t c =
    let at = c.loop-item in
    let R = maker_of c.args.levels c.args.mode c.args.plan.now.0 in
    let t = type_view c.args.inner.now in
    let i = at_item R t c.args.items.now c.args.begun.now (grown c.args.b.now) c.item-item.result at.item-index at.begun
    (grown at.b)
    c.loop-item-test.true c.item-item.is at.invariant in
    let idle = sym (c.grew.ensures (grown at.b) c.size-before.ensures) ∙ c.if-not-grew.true in
    λ h. idle_stops R t c.args.items.now c.args.begun.now (grown c.args.b.now) c.item-item.result
    (drop (at.item-index + 1) c.args.items.now)
    at.begun (grown at.b) (made c.build_closed.new.b c.in_ok-build_closed.field-0) h c.stop_here.result i
    (c.in_ok-build_closed.ensures.gives h) idle (c.stop_here.ensures h)

pub build_items-returns-clause-gives : goal.build_items-returns-clause-gives
build_items-returns-clause-gives t c =
    let at = c.loop-item in
    let R = maker_of c.args.levels c.args.mode c.args.plan.now.0 in
    let t = type_view c.args.inner.now in
    let last = at_last_item R t c.args.items.now c.args.begun.now (grown c.args.b.now) at.item-index at.begun
    (grown at.b)
    c.loop-item-test.false at.invariant in
    λ h. last.so_far h

pub build_items-returns-clause-counts : goal.build_items-returns-clause-counts
build_items-returns-clause-counts t c =
    let at = c.loop-item in
    let last = at_last_item (maker_of c.args.levels c.args.mode c.args.plan.now.0) (type_view c.args.inner.now)
    c.args.items.now c.args.begun.now
    (grown c.args.b.now) at.item-index at.begun (grown at.b) c.loop-item-test.false at.invariant in
    let counted = last.counts in
    omega (arith, counted)

pub build_leaves-loop-key-init : goal.build_leaves-loop-key-init
build_leaves-loop-key-init t c =
    let T : List (List ℕ × Growing) → Type 0 = λ xs. Leaved (maker_of c.args.levels c.args.mode c.args.plan.now.0)
    (type_view c.args.inner.now)
    (map pair_of c.args.pairs.now) c.args.begun.now (map leaf_of xs) (map pair_of c.args.pairs.now) c.args.begun.now in
    subst T (sym c.new-leaves.ensures.items) (none_leaved (maker_of c.args.levels c.args.mode c.args.plan.now.0)
    (type_view c.args.inner.now)
    (map pair_of c.args.pairs.now) c.args.begun.now)

pub build_leaves-loop-key-preserved : goal.build_leaves-loop-key-preserved
build_leaves-loop-key-preserved t c =
    let at = c.loop-key in
    let R = maker_of c.args.levels c.args.mode c.args.plan.now.0 in
    let t = type_view c.args.inner.now in
    let whole = map pair_of c.args.pairs.now in
    let l = at_pair R t whole c.args.begun.now (map leaf_of at.leaves.items) c.args.pairs.now c.loop-key-item.result
    at.key-index at.begun
    c.loop-key-test.true c.loop-key-item.is at.invariant in
    one_leaved R t whole c.args.begun.now (map leaf_of at.leaves.items) (map leaf_of c.add_leaf.new.leaves.items)
    c.loop-key-item.result.0
    (value_view c.loop-key-item.result.1) (map pair_of (drop (at.key-index + 1) c.args.pairs.now)) at.begun
    c.build_closed.new.begun
    (grown c.in_ok-content.content) (made c.build_closed.new.b c.in_ok-build_closed.field-0) l c.in_ok-content.ensures
    c.in_ok-build_closed.ensures.gives c.in_ok-build_closed.ensures.counts c.in_ok-add_leaf.ensures

pub build_leaves-returns-in_err-build_closed-clause-gives : goal.build_leaves-returns-in_err-build_closed-clause-gives
build_leaves-returns-in_err-build_closed-clause-gives t c =
    let p = err_from_is_err_and c.from_residual-in_err-build_closed.result
    c.from_residual-in_err-build_closed.ensures.1 in
    let at = c.loop-key in
    let R = maker_of c.args.levels c.args.mode c.args.plan.now.0 in
    let t = type_view c.args.inner.now in
    let whole = map pair_of c.args.pairs.now in
    let l = at_pair R t whole c.args.begun.now (map leaf_of at.leaves.items) c.args.pairs.now c.loop-key-item.result
    at.key-index at.begun
    c.loop-key-test.true c.loop-key-item.is at.invariant in
    λ h. gives_err h _ c.from_residual-in_err-build_closed.result c.in_err-build_closed.field-0.0 _ (p.1 ∙ ap Err p.2)
    (leaf_stops R t whole c.args.begun.now (map leaf_of at.leaves.items) c.loop-key-item.result.0
    (value_view c.loop-key-item.result.1)
    (map pair_of (drop (at.key-index + 1) c.args.pairs.now)) at.begun (grown c.in_ok-content.content) h
    c.in_err-build_closed.field-0.0 l
    c.in_ok-content.ensures (c.in_err-build_closed.ensures.gives h))

pub build_leaves-returns-clause-gives : goal.build_leaves-returns-clause-gives
build_leaves-returns-clause-gives t c =
    let at = c.loop-key in
    let R = maker_of c.args.levels c.args.mode c.args.plan.now.0 in
    let t = type_view c.args.inner.now in
    let whole = map pair_of c.args.pairs.now in
    λ h. all_leaved R t whole c.args.begun.now (map leaf_of at.leaves.items) at.begun h
    (at_last R t whole c.args.begun.now (map leaf_of at.leaves.items) c.args.pairs.now at.key-index at.begun
    c.loop-key-test.false at.invariant)

pub build_leaves-returns-clause-counts : goal.build_leaves-returns-clause-counts
build_leaves-returns-clause-counts t c =
    let at = c.loop-key in
    let last = at_last (maker_of c.args.levels c.args.mode c.args.plan.now.0) (type_view c.args.inner.now)
    (map pair_of c.args.pairs.now)
    c.args.begun.now (map leaf_of at.leaves.items) c.args.pairs.now at.key-index at.begun c.loop-key-test.false
    at.invariant in
    let counted = last.counts in
    omega (arith, counted)

pub build_fields-loop-op-init : goal.build_fields-loop-op-init
build_fields-loop-op-init t c =
    none_yet (maker_of c.args.levels c.args.mode c.args.plan.now.0) c.args.plan.now.1 c.args.ops.now
    (scope_of c.args.env.now c.args.types.now)
    c.args.begun.now (values_of c.args.fields.now) (grown c.args.b.now) c.requires

pub build_fields-build_op-requires : goal.build_fields-build_op-requires
build_fields-build_op-requires t c =
    let at = c.loop-op in
    let s = at_op (maker_of c.args.levels c.args.mode c.args.plan.now.0) c.args.plan.now.1 c.args.ops.now
    (scope_of c.args.env.now c.args.types.now) c.args.begun.now (values_of c.args.fields.now) (grown c.args.b.now)
    at.condition
    (Check 0 Eq 0 0) at.op-index (scope_of at.env c.args.types.now) at.begun (values_of at.due.now) (grown at.b)
    c.loop-op-test.true at.invariant in
    (omega (arith, c.decreases), (s.sound.0, s.condition))

pub build_fields-loop-op-preserved : goal.build_fields-loop-op-preserved
build_fields-loop-op-preserved t c =
    let at = c.loop-op in
    let R = maker_of c.args.levels c.args.mode c.args.plan.now.0 in
    let f = c.args.plan.now.1 in
    let first = scope_of c.args.env.now c.args.types.now in
    let scope = scope_of at.env c.args.types.now in
    let fields = values_of c.args.fields.now in
    let s = at_op R f c.args.ops.now first c.args.begun.now fields (grown c.args.b.now) at.condition
    (Check 0 Eq 0 0) at.op-index scope at.begun (values_of at.due.now) (grown at.b) c.loop-op-test.true at.invariant in
    let x = c.in_ok-step.step in
    one_more R f c.args.ops.now first c.args.begun.now fields (grown c.args.b.now) at.condition x.condition
    (get_or c.args.ops.now at.op-index (Check 0 Eq 0 0))
    (drop (at.op-index + 1) c.args.ops.now) scope (scope_of c.build_op.new.env c.args.types.now) at.begun
    c.build_op.new.begun
    (values_of at.due.now) (values_of x.due.now) (grown at.b) (grown c.build_op.new.b) s c.in_ok-step.ensures.turn
    c.in_ok-step.ensures.condition c.in_ok-step.ensures.counts

pub build_fields-returns-in_err-step-clause-gives : goal.build_fields-returns-in_err-step-clause-gives
build_fields-returns-in_err-step-clause-gives t c =
    let p = err_from_is_err_and c.from_residual.result c.from_residual.ensures.1 in
    let at = c.loop-op in
    let R = maker_of c.args.levels c.args.mode c.args.plan.now.0 in
    let f = c.args.plan.now.1 in
    let first = scope_of c.args.env.now c.args.types.now in
    let scope = scope_of at.env c.args.types.now in
    let fields = values_of c.args.fields.now in
    let s = at_op R f c.args.ops.now first c.args.begun.now fields (grown c.args.b.now) at.condition
    (Check 0 Eq 0 0) at.op-index scope at.begun (values_of at.due.now) (grown at.b) c.loop-op-test.true at.invariant in
    λ h. gives_err h _ c.from_residual.result c.in_err-step.field-0.0 _ (p.1 ∙ ap Err p.2)
    (one_stops R f c.args.ops.now first c.args.begun.now fields (grown c.args.b.now) at.condition
    (get_or c.args.ops.now at.op-index (Check 0 Eq 0 0))
    (drop (at.op-index + 1) c.args.ops.now) scope at.begun (values_of at.due.now) (grown at.b) h c.in_err-step.field-0.0
    s
    (c.in_err-step.ensures.turn h))

pub build_fields-returns-then-not-is_empty-clause-gives : goal.build_fields-returns-then-not-is_empty-clause-gives
build_fields-returns-then-not-is_empty-clause-gives t c =
    let at = c.loop-op in
    let R = maker_of c.args.levels c.args.mode c.args.plan.now.0 in
    let f = c.args.plan.now.1 in
    let first = scope_of c.args.env.now c.args.types.now in
    let fields = values_of c.args.fields.now in
    let s = at_end R f c.args.ops.now first c.args.begun.now fields (grown c.args.b.now) at.condition at.op-index
    (scope_of at.env c.args.types.now) at.begun (values_of at.due.now) (grown at.b) c.loop-op-test.false at.invariant in
    let was = sym c.is_empty.ensures ∙ c.if-not-is_empty.true in
    λ h. some_due R f c.args.ops.now first c.args.begun.now fields (grown c.args.b.now) at.condition
    (scope_of at.env c.args.types.now)
    at.begun at.due.now (grown at.b) h c.stop_here.result s (λ e. (let is = eq-eqb (length at.due.now) 0 e in cc))
    (c.stop_here.ensures h)

pub build_fields-returns-clause-gives : goal.build_fields-returns-clause-gives
build_fields-returns-clause-gives t c =
    let at = c.loop-op in
    let R = maker_of c.args.levels c.args.mode c.args.plan.now.0 in
    let f = c.args.plan.now.1 in
    let first = scope_of c.args.env.now c.args.types.now in
    let fields = values_of c.args.fields.now in
    let s = at_end R f c.args.ops.now first c.args.begun.now fields (grown c.args.b.now) at.condition at.op-index
    (scope_of at.env c.args.types.now) at.begun (values_of at.due.now) (grown at.b) c.loop-op-test.false at.invariant in
    let none : length at.due.now ≡ 0 = eqb-true (length at.due.now) 0
    (sym c.is_empty.ensures ∙ c.if-not-is_empty.false) in
    λ h. all_made R f c.args.ops.now first c.args.begun.now fields (grown c.args.b.now) at.condition
    (scope_of at.env c.args.types.now)
    at.begun at.due.now (grown at.b) h s none

pub build_fields-returns-clause-counts : goal.build_fields-returns-clause-counts
build_fields-returns-clause-counts t c =
    let at = c.loop-op in
    let R = maker_of c.args.levels c.args.mode c.args.plan.now.0 in
    let f = c.args.plan.now.1 in
    let first = scope_of c.args.env.now c.args.types.now in
    let fields = values_of c.args.fields.now in
    let s = at_end R f c.args.ops.now first c.args.begun.now fields (grown c.args.b.now) at.condition at.op-index
    (scope_of at.env c.args.types.now) at.begun (values_of at.due.now) (grown at.b) c.loop-op-test.false at.invariant in
    let none : length at.due.now ≡ 0 = eqb-true (length at.due.now) 0
    (sym c.is_empty.ensures ∙ c.if-not-is_empty.false) in
    all_counted R f c.args.ops.now first c.args.begun.now fields (grown c.args.b.now) at.condition
    (scope_of at.env c.args.types.now)
    at.begun at.due.now (grown at.b) s none

pub build_op-returns-in-Ok-clause-turn : goal.build_op-returns-in-Ok-clause-turn
build_op-returns-in-Ok-clause-turn t c = λ h.
    let f = c.args.plan.now.1 in
    let scope = scope_of c.args.env.now c.args.types.now in
    let it = c.in-Check in
    let T : Flat → Type 0 = λ z. step no_reader h (check (expr_at z it.left) it.op (expr_at z it.right) it.place) scope
    c.args.begun.now nothing
    ≡ Ok (unchanged scope c.args.begun.now nothing) in
    let done = subst T c.flat-flat.ensures.lists (c.in-Ok.ensures no_reader h it.place c.args.begun.now nothing
    c.args.types.now) in
    turns_as (maker_of c.args.levels c.args.mode c.args.plan.now.0) h f (governed f c.args.condition) c.args.op
    (Check it.left it.op it.right it.place) scope c.args.begun.now (values_of c.args.fields.now) (grown c.args.b.now) _
    it.is
    (check_turned (maker_of c.args.levels c.args.mode c.args.plan.now.0) h f (governed f c.args.condition) it.left it.op
    it.right it.place
    scope c.args.begun.now (values_of c.args.fields.now) (grown c.args.b.now) nothing done)

pub build_op-returns-in-Err-clause-turn : goal.build_op-returns-in-Err-clause-turn
build_op-returns-in-Err-clause-turn t c = λ h.
    let f = c.args.plan.now.1 in
    let scope = scope_of c.args.env.now c.args.types.now in
    let it = c.in-Check in
    let T : Flat → Type 0 = λ z. step no_reader h (check (expr_at z it.left) it.op (expr_at z it.right) it.place) scope
    c.args.begun.now nothing
    ≡ Err (stuck (item_of h it.place) c.in-Err.cause) in
    let done = subst T c.flat-flat.ensures.lists (c.in-Err.ensures no_reader h it.place c.args.begun.now nothing
    c.args.types.now) in
    stops_as (maker_of c.args.levels c.args.mode c.args.plan.now.0) h f (governed f c.args.condition) c.args.op
    (Check it.left it.op it.right it.place) scope c.args.begun.now (values_of c.args.fields.now) (grown c.args.b.now)
    c.stop_at_item.result it.is
    (check_stops (maker_of c.args.levels c.args.mode c.args.plan.now.0) h f (governed f c.args.condition) it.left it.op
    it.right it.place
    scope c.args.begun.now (values_of c.args.fields.now) (grown c.args.b.now) nothing c.in-Err.cause
    c.stop_at_item.result done
    (c.stop_at_item.ensures h))

pub build_op-returns-in_default-clause-turn : goal.build_op-returns-in_default-clause-turn
build_op-returns-in_default-clause-turn t c = λ h.
    let f = c.args.plan.now.1 in
    let it = c.in-Field in
    stops_as (maker_of c.args.levels c.args.mode c.args.plan.now.0) h f (governed f c.args.condition) c.args.op
    (Field it.name it.ty it.slot) (scope_of c.args.env.now c.args.types.now) c.args.begun.now
    (values_of c.args.fields.now) (grown c.args.b.now)
    c.stop_here.result it.is
    (field_missing (maker_of c.args.levels c.args.mode c.args.plan.now.0) h f (governed f c.args.condition) it.name
    it.ty it.slot
    (scope_of c.args.env.now c.args.types.now) c.args.begun.now (values_of c.args.fields.now) (grown c.args.b.now)
    c.stop_here.result
    c.in_default.ensures.none (c.stop_here.ensures h))

pub build_op-returns-in-Err-build_field-clause-turn : goal.build_op-returns-in-Err-build_field-clause-turn
build_op-returns-in-Err-build_field-clause-turn t c = λ h.
    let f = c.args.plan.now.1 in
    let it = c.in-Field in
    let e = c.in-Err-build_field.error in
    let x = c.in-Some in
    let named = c.name.ensures ∙ ap (λ (z : Flat). name_at z it.name) c.flat-flat.ensures.lists in
    stops_as (maker_of c.args.levels c.args.mode c.args.plan.now.0) h f (governed f c.args.condition) c.args.op
    (Field it.name it.ty it.slot) (scope_of c.args.env.now c.args.types.now) c.args.begun.now
    (values_of c.args.fields.now) (grown c.args.b.now)
    c.in_field.result it.is
    (field_stops (maker_of c.args.levels c.args.mode c.args.plan.now.0) h f (governed f c.args.condition) it.name it.ty
    it.slot
    (scope_of c.args.env.now c.args.types.now) c.args.begun.now (value_view x.value.now) (values_of c.args.fields.now)
    (values_of x.due.now)
    (grown c.args.b.now) e c.in_field.result x.ensures.is (c.in-Err-build_field.ensures.gives
    (field_of h (name_at f it.name)))
    (λ p at. c.in_field.ensures h p (subst (λ (n : Word). StopsAt (field_of h n) e p) (sym named) at)))

pub build_op-returns-in-Ok-build_field-clause-turn : goal.build_op-returns-in-Ok-build_field-clause-turn
build_op-returns-in-Ok-build_field-clause-turn t c = λ h.
    let f = c.args.plan.now.1 in
    let it = c.in-Field in
    let x = c.in-Some in
    let y = c.in-Ok-build_field in
    let T : Flat → Type 0 = λ z. bind (sets (slot_of it.slot) (type_at z it.ty)) (outputs_of y.outputs)
    (scope_of c.args.env.now c.args.types.now)
    ≡ scope_of c.bind_outputs.new.env c.args.types.now in
    let bound = subst T c.flat-flat.ensures.lists (c.bind_outputs.ensures c.args.types.now) in
    turns_as (maker_of c.args.levels c.args.mode c.args.plan.now.0) h f (governed f c.args.condition) c.args.op
    (Field it.name it.ty it.slot) (scope_of c.args.env.now c.args.types.now) c.args.begun.now
    (values_of c.args.fields.now) (grown c.args.b.now)
    _ it.is
    (field_turned (maker_of c.args.levels c.args.mode c.args.plan.now.0) h f (governed f c.args.condition) it.name it.ty
    it.slot
    (scope_of c.args.env.now c.args.types.now) (scope_of c.bind_outputs.new.env c.args.types.now) c.args.begun.now
    c.build_field.new.begun
    (value_view x.value.now) (values_of c.args.fields.now) (values_of x.due.now) (grown c.args.b.now)
    (made c.build_field.new.b y.outputs)
    x.ensures.is (y.ensures.gives (field_of h (name_at f it.name))) bound y.ensures.counts)

pub build_list-returns-then-not-has_count-clause-gives : goal.build_list-returns-then-not-has_count-clause-gives
build_list-returns-then-not-has_count-clause-gives t c =
    λ h. stops_at h c.stop_here.result (stuck h Shape) _ (c.stop_here.ensures h)
    (list_not (maker_of c.args.levels c.args.mode c.args.plan.now.0) h c.args.count (type_view c.args.inner.now)
    c.args.begun.now
    c.args.items.now (grown c.args.b.now) (sym c.if-not-has_count.ensures))

pub build_list-returns-in_err-build_items-clause-gives : goal.build_list-returns-in_err-build_items-clause-gives
build_list-returns-in_err-build_items-clause-gives t c =
    let p = err_from_is_err_and c.from_residual.result c.from_residual.ensures.1 in
    λ h. gives_err h (made c.build_items.new.b) c.from_residual.result c.in_err-build_items.field-0.0 _
    (p.1 ∙ ap Err p.2)
    (list_stops (maker_of c.args.levels c.args.mode c.args.plan.now.0) h c.args.count (type_view c.args.inner.now)
    c.args.begun.now
    c.args.items.now (grown c.args.b.now) c.in_err-build_items.field-0.0 (sym c.if-not-has_count.ensures)
    (c.in_err-build_items.ensures.gives h))

pub build_list-returns-clause-gives : goal.build_list-returns-clause-gives
build_list-returns-clause-gives t c =
    λ h. list_on (maker_of c.args.levels c.args.mode c.args.plan.now.0) h c.args.count (type_view c.args.inner.now)
    c.args.begun.now
    c.args.items.now (grown c.args.b.now) (grown c.build_items.new.b) (sym c.if-not-has_count.ensures)
    (c.in_ok-build_items.ensures.gives h)

pub build_dict-add_here-requires-clause-fits : goal.build_dict-add_here-requires-clause-fits
build_dict-add_here-requires-clause-fits t c =
    let T : List (List ℕ × Value) → Type 0 = λ z. make_leaves (maker_of c.args.levels c.args.mode c.args.plan.now.0)
    at_root
    (type_view c.args.inner.now) c.args.begun.now (pairs_of (map pair_of z)) ≡ Ok
    (map leaf_of c.in_ok-leaves.leaves.items) in (
      c.args.mode,
      fit_edge c.args.mode (maker_of c.args.levels c.args.mode c.args.plan.now.0) at_root c.args.n
          (type_view c.args.inner.now)
          c.args.begun.now (pairs_of (map pair_of c.args.dict.now.pairs)) c.args.dict.now.unknown
          (map leaf_of c.in_ok-leaves.leaves.items)
          (sym c.in_ok-fits.ensures ∙ c.if-not-fits.false) (subst T c.as_slice-pairs.ensures
          (c.in_ok-leaves.ensures.gives at_root)),
    )

pub build_dict-returns-then-not-fits-clause-gives : goal.build_dict-returns-then-not-fits-clause-gives
build_dict-returns-then-not-fits-clause-gives t c =
    λ h. stops_at h c.stop_here.result (stuck h Shape) _ (c.stop_here.ensures h)
    (dict_not c.args.mode (maker_of c.args.levels c.args.mode c.args.plan.now.0) h c.args.n (type_view c.args.inner.now)
    c.args.begun.now
    (pairs_of (map pair_of c.args.dict.now.pairs)) c.args.dict.now.unknown (grown c.args.b.now)
    (sym c.in_ok-fits.ensures ∙ c.if-not-fits.true))

pub build_dict-returns-in_err-leaves-clause-gives : goal.build_dict-returns-in_err-leaves-clause-gives
build_dict-returns-in_err-leaves-clause-gives t c =
    let p = err_from_is_err_and c.from_residual-in_err-leaves.result c.from_residual-in_err-leaves.ensures.1 in
    λ h. (let T : List (List ℕ × Value) → Type 0 = λ z. Stops h c.in_err-leaves.field-0.0
    (make_leaves (maker_of c.args.levels c.args.mode c.args.plan.now.0) h (type_view c.args.inner.now) c.args.begun.now
    (pairs_of (map pair_of z))) in
    gives_err h (made c.args.b.now) c.from_residual-in_err-leaves.result c.in_err-leaves.field-0.0 _ (p.1 ∙ ap Err p.2)
    (dict_stops c.args.mode (maker_of c.args.levels c.args.mode c.args.plan.now.0) h c.args.n
    (type_view c.args.inner.now) c.args.begun.now
    (pairs_of (map pair_of c.args.dict.now.pairs)) c.args.dict.now.unknown (grown c.args.b.now)
    c.in_err-leaves.field-0.0
    (sym c.in_ok-fits.ensures ∙ c.if-not-fits.false) (subst T c.as_slice-pairs.ensures
    (c.in_err-leaves.ensures.gives h))))

pub build_dict-returns-clause-gives : goal.build_dict-returns-clause-gives
build_dict-returns-clause-gives t c =
    λ h. (let T : List (List ℕ × Value) → Type 0 = λ z. make_leaves
    (maker_of c.args.levels c.args.mode c.args.plan.now.0) h
    (type_view c.args.inner.now) c.args.begun.now (pairs_of (map pair_of z)) ≡ Ok
    (map leaf_of c.in_ok-leaves.leaves.items) in
    gives_same h (made c.add_here.new.b) c.add_here.result _ _
    (dict_on c.args.mode (maker_of c.args.levels c.args.mode c.args.plan.now.0) h c.args.n (type_view c.args.inner.now)
    c.args.begun.now
    (pairs_of (map pair_of c.args.dict.now.pairs)) c.args.dict.now.unknown (grown c.args.b.now)
    (map leaf_of c.in_ok-leaves.leaves.items)
    (sym c.in_ok-fits.ensures ∙ c.if-not-fits.false) (subst T c.as_slice-pairs.ensures
    (c.in_ok-leaves.ensures.gives h)))
    (c.add_here.ensures h))

pub build_dict_e-add_below-requires-clause-fits : goal.build_dict_e-add_below-requires-clause-fits
build_dict_e-add_below-requires-clause-fits t c =
    let T : List (List ℕ × Value) → Type 0 = λ z. make_leaves (maker_of c.args.levels c.args.mode c.args.plan.now.0)
    at_root
    (type_view c.args.inner.now) c.args.begun.now (pairs_of (map pair_of z)) ≡ Ok
    (map leaf_of c.in_ok-leaves.leaves.items) in (
      c.args.mode,
      fit_root c.args.mode (maker_of c.args.levels c.args.mode c.args.plan.now.0) at_root c.args.n
          (type_view c.args.inner.now)
          c.args.begun.now (pairs_of (map pair_of c.args.dict.now.pairs)) c.args.dict.now.unknown
          (map leaf_of c.in_ok-leaves.leaves.items)
          (sym c.in_ok-fits.ensures ∙ c.if-not-fits.false) (subst T c.as_slice-pairs.ensures
          (c.in_ok-leaves.ensures.gives at_root)),
    )

pub build_dict_e-returns-then-not-fits-clause-gives : goal.build_dict_e-returns-then-not-fits-clause-gives
build_dict_e-returns-then-not-fits-clause-gives t c =
    λ h. stops_at h c.stop_here.result (stuck h Shape) _ (c.stop_here.ensures h)
    (dict_e_not c.args.mode (maker_of c.args.levels c.args.mode c.args.plan.now.0) h c.args.n
    (type_view c.args.inner.now) c.args.begun.now
    (pairs_of (map pair_of c.args.dict.now.pairs)) c.args.dict.now.unknown (grown c.args.b.now)
    (sym c.in_ok-fits.ensures ∙ c.if-not-fits.true))

pub build_dict_e-returns-in_err-leaves-clause-gives : goal.build_dict_e-returns-in_err-leaves-clause-gives
build_dict_e-returns-in_err-leaves-clause-gives t c =
    let p = err_from_is_err_and c.from_residual-in_err-leaves.result c.from_residual-in_err-leaves.ensures.1 in
    λ h. (let T : List (List ℕ × Value) → Type 0 = λ z. Stops h c.in_err-leaves.field-0.0
    (make_leaves (maker_of c.args.levels c.args.mode c.args.plan.now.0) h (type_view c.args.inner.now) c.args.begun.now
    (pairs_of (map pair_of z))) in
    gives_err h (made c.args.b.now) c.from_residual-in_err-leaves.result c.in_err-leaves.field-0.0 _ (p.1 ∙ ap Err p.2)
    (dict_e_stops c.args.mode (maker_of c.args.levels c.args.mode c.args.plan.now.0) h c.args.n
    (type_view c.args.inner.now) c.args.begun.now
    (pairs_of (map pair_of c.args.dict.now.pairs)) c.args.dict.now.unknown (grown c.args.b.now)
    c.in_err-leaves.field-0.0
    (sym c.in_ok-fits.ensures ∙ c.if-not-fits.false) (subst T c.as_slice-pairs.ensures
    (c.in_err-leaves.ensures.gives h))))

pub build_dict_e-returns-clause-gives : goal.build_dict_e-returns-clause-gives
build_dict_e-returns-clause-gives t c =
    λ h. (let T : List (List ℕ × Value) → Type 0 = λ z. make_leaves
    (maker_of c.args.levels c.args.mode c.args.plan.now.0) h
    (type_view c.args.inner.now) c.args.begun.now (pairs_of (map pair_of z)) ≡ Ok
    (map leaf_of c.in_ok-leaves.leaves.items) in
    gives_same h (made c.add_below.new.b) c.add_below.result _ _
    (dict_e_on c.args.mode (maker_of c.args.levels c.args.mode c.args.plan.now.0) h c.args.n
    (type_view c.args.inner.now) c.args.begun.now
    (pairs_of (map pair_of c.args.dict.now.pairs)) c.args.dict.now.unknown (grown c.args.b.now)
    (map leaf_of c.in_ok-leaves.leaves.items)
    (sym c.in_ok-fits.ensures ∙ c.if-not-fits.false) (subst T c.as_slice-pairs.ensures
    (c.in_ok-leaves.ensures.gives h)))
    (c.add_below.ensures h))

pub build_inner-returns-in_default-clause-gives : goal.build_inner-returns-in_default-clause-gives
build_inner-returns-in_default-clause-gives t c =
    λ h. stops_at h c.stop_here.result (stuck h Shape) _ (c.stop_here.ensures h)
    (c.in_default.ensures.none c.args.mode (core_of c.args.plan.now.0)
    (maker_of c.args.levels c.args.mode c.args.plan.now.0) h
    (record_at c.args.plan.now.1 c.args.first c.args.count) (scope_of c.args.env.now c.args.types.now) c.args.begun.now
    (grown c.args.b.now))

pub build_inner-returns-then-not-has_all-clause-gives : goal.build_inner-returns-then-not-has_all-clause-gives
build_inner-returns-then-not-has_all-clause-gives t c =
    let fs = c.in-Some.fields.now in
    λ h. stops_at h c.stop_here-then-not-has_all.result (stuck h Shape) _ (c.stop_here-then-not-has_all.ensures h)
    (inner_misnamed c.args.mode (core_of c.args.plan.now.0) (maker_of c.args.levels c.args.mode c.args.plan.now.0) h
    (record_at c.args.plan.now.1 c.args.first c.args.count) (scope_of c.args.env.now c.args.types.now) c.args.begun.now
    (names_in (map pair_of fs)) (values_of fs) (value_view c.args.value.now) (grown c.args.b.now) c.in-Some.ensures.is
    (ap (has_fields (names_in (map pair_of fs)) (values_of fs)) (sym c.inner_operations-ops.ensures.items) ∙ sym
    c.if-not-has_all.ensures))

pub build_inner-returns-in_err-build_fields-clause-gives : goal.build_inner-returns-in_err-build_fields-clause-gives
build_inner-returns-in_err-build_fields-clause-gives t c =
    let p = err_from_is_err_and c.from_residual-in_err-build_fields.result
    c.from_residual-in_err-build_fields.ensures.1 in
    let fs = c.in-Some.fields.now in
    let R = maker_of c.args.levels c.args.mode c.args.plan.now.0 in
    λ h. gives_err h (made c.build_fields.new.b) c.from_residual-in_err-build_fields.result
    c.in_err-build_fields.field-0.0 _ (p.1 ∙ ap Err p.2)
    (inner_stops c.args.mode (core_of c.args.plan.now.0) R h
    (record_at c.args.plan.now.1 c.args.first c.args.count) (scope_of c.args.env.now c.args.types.now) c.args.begun.now
    (names_in (map pair_of fs)) (values_of fs) (value_view c.args.value.now) (grown c.args.b.now)
    c.in_err-build_fields.field-0.0
    c.in-Some.ensures.is (ap (has_fields (names_in (map pair_of fs)) (values_of fs))
    (sym c.inner_operations-ops.ensures.items) ∙ sym c.if-not-has_all.ensures)
    (stops_same h c.in_err-build_fields.field-0.0 _ _
    (λ i. make_fields R h (sym c.inner_operations-ops.ensures.items i)
    (scope_of (sym c.in_ok-inner.ensures i) c.args.types.now) c.args.begun.now (values_of fs) (grown c.args.b.now))
    (c.in_err-build_fields.ensures.gives h)))

pub build_inner-returns-clause-gives : goal.build_inner-returns-clause-gives
build_inner-returns-clause-gives t c =
    let fs = c.in-Some.fields.now in
    let R = maker_of c.args.levels c.args.mode c.args.plan.now.0 in
    λ h. inner_on c.args.mode (core_of c.args.plan.now.0) R h
    (record_at c.args.plan.now.1 c.args.first c.args.count) (scope_of c.args.env.now c.args.types.now) c.args.begun.now
    (names_in (map pair_of fs)) (values_of fs) (value_view c.args.value.now) (grown c.args.b.now)
    (scope_of c.build_fields.new.env c.args.types.now, grown c.build_fields.new.b)
    c.in-Some.ensures.is (ap (has_fields (names_in (map pair_of fs)) (values_of fs))
    (sym c.inner_operations-ops.ensures.items) ∙ sym c.if-not-has_all.ensures)
    ((λ i. make_fields R h (sym c.inner_operations-ops.ensures.items i)
    (scope_of (sym c.in_ok-inner.ensures i) c.args.types.now) c.args.begun.now (values_of fs) (grown c.args.b.now))
    ∙ c.in_ok-build_fields.ensures.gives h)

pub build_constructor-returns-in_err-put_tag-clause-gives : goal.build_constructor-returns-in_err-put_tag-clause-gives
build_constructor-returns-in_err-put_tag-clause-gives t c = λ d scope there fits.
    let p = err_from_is_err_and c.from_residual-in_err-put_tag.result c.from_residual-in_err-put_tag.ensures.1 in
    gives_err (start d) (made c.put_tag.new.b) c.from_residual-in_err-put_tag.result c.in_err-put_tag.field-0.0 _
    (p.1 ∙ ap Err p.2)
    (tag_stops (maker_of c.args.levels c.args.mode c.args.plan.now.0) d scope c.args.begun.now
    (values_of c.args.fields.now) (grown c.args.b.now)
    c.in_err-put_tag.field-0.0 (c.in_err-put_tag.ensures (start d) d there))

pub build_constructor-returns-in_err-build_fields-clause-gives :
    goal.build_constructor-returns-in_err-build_fields-clause-gives
build_constructor-returns-in_err-build_fields-clause-gives t c = λ d scope there fits.
    let p = err_from_is_err_and c.from_residual-in_err-build_fields.result
    c.from_residual-in_err-build_fields.ensures.1 in
    let R = maker_of c.args.levels c.args.mode c.args.plan.now.0 in
    let is = items_in c.args.plan.now.1 (type_at c.args.plan.now.1) None c.operations-ops.result.now in
    let bound : slots_view c.in_ok-slots.slots ≡ scope = same_Some (slots_view c.in_ok-slots.slots) scope
    (sym (c.in_ok-slots.ensures d there) ∙ fits) in
    let slots_are = ap (scope_of c.in_ok-slots.slots.numbers) c.as_slice.ensures.value ∙ bound in
    let T : Scope → Type 0 = λ z. Stops (start d) c.in_err-build_fields.field-0.0
    (make_fields R (start d) is z c.args.begun.now (values_of c.args.fields.now) (grown c.put_tag.new.b)) in
    gives_err (start d) (made c.build_fields.new.b) c.from_residual-in_err-build_fields.result
    c.in_err-build_fields.field-0.0 _ (p.1 ∙ ap Err p.2)
    (inside_stops R d is scope c.args.begun.now (values_of c.args.fields.now) (grown c.args.b.now)
    (grown c.put_tag.new.b)
    c.in_err-build_fields.field-0.0 (c.operations-ops.ensures.items d there) (c.in_ok-put_tag.ensures (start d) d there)
    (subst T slots_are (c.in_err-build_fields.ensures.gives (start d))))

pub build_constructor-returns-in-None-clause-gives : goal.build_constructor-returns-in-None-clause-gives
build_constructor-returns-in-None-clause-gives t c = λ d scope there fits.
    let R = maker_of c.args.levels c.args.mode c.args.plan.now.0 in
    let is = items_in c.args.plan.now.1 (type_at c.args.plan.now.1) None c.operations-ops.result.now in
    let bound : slots_view c.in_ok-slots.slots ≡ scope = same_Some (slots_view c.in_ok-slots.slots) scope
    (sym (c.in_ok-slots.ensures d there) ∙ fits) in
    let slots_are = ap (scope_of c.in_ok-slots.slots.numbers) c.as_slice.ensures.value ∙ bound in
    let x : Scope × Grown = (scope_of c.build_fields.new.env c.as_slice.result.now, grown c.build_fields.new.b) in
    let T : Scope → Type 0 = λ z. make_fields R (start d) is z c.args.begun.now (values_of c.args.fields.now)
    (grown c.put_tag.new.b) ≡ Ok x in
    inside_overflows R d is scope c.args.begun.now (values_of c.args.fields.now) (grown c.args.b.now)
    (grown c.put_tag.new.b) x
    c.stop_at_result.result (c.operations-ops.ensures.items d there) (c.in_ok-put_tag.ensures (start d) d there)
    (subst T slots_are (c.in_ok-build_fields.ensures.gives (start d)))
    (sym c.in-None.is ∙ c.in_ok-results.ensures c.as_slice.result.now d there)
    (c.stop_at_result.ensures (start d))

pub build_constructor-returns-clause-gives : goal.build_constructor-returns-clause-gives
build_constructor-returns-clause-gives t c = λ d scope there fits.
    let R = maker_of c.args.levels c.args.mode c.args.plan.now.0 in
    let is = items_in c.args.plan.now.1 (type_at c.args.plan.now.1) None c.operations-ops.result.now in
    let bound : slots_view c.in_ok-slots.slots ≡ scope = same_Some (slots_view c.in_ok-slots.slots) scope
    (sym (c.in_ok-slots.ensures d there) ∙ fits) in
    let slots_are = ap (scope_of c.in_ok-slots.slots.numbers) c.as_slice.ensures.value ∙ bound in
    let x : Scope × Grown = (scope_of c.build_fields.new.env c.as_slice.result.now, grown c.build_fields.new.b) in
    let T : Scope → Type 0 = λ z. make_fields R (start d) is z c.args.begun.now (values_of c.args.fields.now)
    (grown c.put_tag.new.b) ≡ Ok x in
    inside_on R d is scope c.args.begun.now (values_of c.args.fields.now) (grown c.args.b.now) (grown c.put_tag.new.b) x
    c.in-Some.outputs (c.operations-ops.ensures.items d there) (c.in_ok-put_tag.ensures (start d) d there)
    (subst T slots_are (c.in_ok-build_fields.ensures.gives (start d)))
    (sym c.in-Some.is ∙ c.in_ok-results.ensures c.as_slice.result.now d there)

pub build_field-returns-in_err-begin-clause-gives : goal.build_field-returns-in_err-begin-clause-gives
build_field-returns-in_err-begin-clause-gives t c =
    let p = err_from_is_err_and c.from_residual.result c.from_residual.ensures.1 in
    let g = c.args.plan.now.1 in
    λ h. gives_err h (made c.args.b.now) c.from_residual.result c.in_err-begin.field-0.0 _ (p.1 ∙ ap Err p.2)
    (begin_stops c.args.levels c.args.mode (core_of c.args.plan.now.0) h
    (goals.at_field (governed g c.args.condition) (type_at g c.args.ty) (scope_of c.args.env.now c.args.types.now))
    c.args.begun.now
    (value_view c.args.value.now) (grown c.args.b.now) c.in_err-begin.field-0.0 (c.in_err-begin.ensures.begins h))

pub build_field-returns-in-Err-Refused-clause-gives : goal.build_field-returns-in-Err-Refused-clause-gives
build_field-returns-in-Err-Refused-clause-gives t c =
    let f = c.flat.result.now in
    let g = c.args.plan.now.1 in
    let scope = scope_of c.args.env.now c.args.types.now in
    let it = c.in-Err-Refused in
    λ h. (let P : Cause → Type 0 = λ z. StopsAt h c.stop_here.result (stuck h z) in
    stops_at h c.stop_here.result (stuck h it.cause) _ (subst P it.cause-is (c.stop_here.ensures h))
    (making_refused c.args.levels c.args.mode (core_of c.args.plan.now.0) h
    (goals.at_field (governed g c.args.condition) (type_at g c.args.ty) scope)
    c.args.begun.now c.begin.new.begun (value_view c.args.value.now) (grown c.args.b.now) it.cause
    (c.in_ok-begin.ensures.begins h)
    (shape_not f g c.args.condition c.args.ty scope it.field-0 it.cause c.flat.ensures.lists it.field-0-is
    it.ensures.shapes)))

pub build_field-returns-in-Ok-LeftOut-clause-gives : goal.build_field-returns-in-Ok-LeftOut-clause-gives
build_field-returns-in-Ok-LeftOut-clause-gives t c =
    let f = c.flat.result.now in
    let g = c.args.plan.now.1 in
    let scope = scope_of c.args.env.now c.args.types.now in
    let it = c.in-Ok-LeftOut in
    λ h. gives_same h (made c.args.b.now) c.left_out.result _ _
    (making_shaped c.args.levels c.args.mode (core_of c.args.plan.now.0) h
    (goals.at_field (governed g c.args.condition) (type_at g c.args.ty) scope)
    c.args.begun.now c.begin.new.begun (value_view c.args.value.now) (grown c.args.b.now) _
    (c.in_ok-begin.ensures.begins h)
    (shape_on f g c.args.condition c.args.ty scope it.field-0 _ c.flat.ensures.lists it.field-0-is it.ensures.shapes))
    (c.left_out.ensures.gives c.args.mode (core_of c.args.plan.now.0)
    (maker_of (c.args.levels - 1) c.args.mode c.args.plan.now.0) h c.begin.new.begun (grown c.args.b.now))

pub build_field-returns-in-Ok-Typed-clause-gives : goal.build_field-returns-in-Ok-Typed-clause-gives
build_field-returns-in-Ok-Typed-clause-gives t c =
    let f = c.flat.result.now in
    let g = c.args.plan.now.1 in
    let scope = scope_of c.args.env.now c.args.types.now in
    let it = c.in-Ok-Typed in
    λ h. gives_same h (made c.build_type.new.b) c.build_type.result _ _
    (making_shaped c.args.levels c.args.mode (core_of c.args.plan.now.0) h
    (goals.at_field (governed g c.args.condition) (type_at g c.args.ty) scope)
    c.args.begun.now c.begin.new.begun (value_view c.args.value.now) (grown c.args.b.now) _
    (c.in_ok-begin.ensures.begins h)
    (shape_on f g c.args.condition c.args.ty scope it.field-0 _ c.flat.ensures.lists it.field-0-is it.ensures.shapes))
    (c.build_type.ensures.gives h)

pub build_field-returns-in-Ok-Here-clause-gives : goal.build_field-returns-in-Ok-Here-clause-gives
build_field-returns-in-Ok-Here-clause-gives t c =
    let f = c.flat.result.now in
    let g = c.args.plan.now.1 in
    let scope = scope_of c.args.env.now c.args.types.now in
    let it = c.in-Ok-Here in
    λ h. gives_same h (made c.build_inner.new.b) c.build_inner.result _ _
    (making_shaped c.args.levels c.args.mode (core_of c.args.plan.now.0) h
    (goals.at_field (governed g c.args.condition) (type_at g c.args.ty) scope)
    c.args.begun.now c.begin.new.begun (value_view c.args.value.now) (grown c.args.b.now) _
    (c.in_ok-begin.ensures.begins h)
    (shape_on f g c.args.condition c.args.ty scope it.field-0 _ c.flat.ensures.lists it.field-0-is it.ensures.shapes))
    (c.build_inner.ensures.gives h)

pub build_field-returns-in-Ok-Under-clause-gives : goal.build_field-returns-in-Ok-Under-clause-gives
build_field-returns-in-Ok-Under-clause-gives t c =
    let f = c.flat.result.now in
    let g = c.args.plan.now.1 in
    let scope = scope_of c.args.env.now c.args.types.now in
    let it = c.in-Ok-Under in
    λ h. gives_same h (made c.build_under.new.b) c.build_under.result _ _
    (making_shaped c.args.levels c.args.mode (core_of c.args.plan.now.0) h
    (goals.at_field (governed g c.args.condition) (type_at g c.args.ty) scope)
    c.args.begun.now c.begin.new.begun (value_view c.args.value.now) (grown c.args.b.now) _
    (c.in_ok-begin.ensures.begins h)
    (shape_on f g c.args.condition c.args.ty scope it.field-0 _ c.flat.ensures.lists it.field-0-is it.ensures.shapes))
    (c.build_under.ensures.gives h)

pub build_field-build_inner-requires : goal.build_field-build_inner-requires
build_field-build_inner-requires t c = (
  omega (arith, c.decreases, c.in_ok-begin.ensures.left),
  here_sound c.flat.result.now c.args.plan.now.1 c.args.ty c.in-Ok-Here.first c.in-Ok-Here.count
      c.in-Ok-Here.field-0 c.flat.ensures.lists c.in-Ok-Here.field-0-is c.requires.there c.in-Ok-Here.ensures.sound,
)

pub build_field-build_under-requires : goal.build_field-build_under-requires
build_field-build_under-requires t c = (
  omega (arith, c.decreases, c.in_ok-begin.ensures.left),
  under_sound c.flat.result.now c.args.plan.now.1 c.args.ty c.in-Ok-Under.first c.in-Ok-Under.count
      c.in-Ok-Under.field-0 c.flat.ensures.lists c.in-Ok-Under.field-0-is c.requires.there c.in-Ok-Under.ensures.sound,
)

pub build_declared-operations-ops-requires : goal.build_declared-operations-ops-requires
build_declared-operations-ops-requires t c =
    plan_there (schema_view c.args.plan.now.0) c.flat-flat.result.now c.args.plan.now.2 c.in-Some-named.c
    c.flat-flat.ensures.planned
    c.in-Some-named.ensures.there

pub build_declared-number-requires : goal.build_declared-number-requires
build_declared-number-requires t c =
    plan_there (schema_view c.args.plan.now.0) c.flat-flat.result.now c.args.plan.now.2 c.in-Some-named.c
    c.flat-flat.ensures.planned
    c.in-Some-named.ensures.there

pub build_declared-build_constructor-requires : goal.build_declared-build_constructor-requires
build_declared-build_constructor-requires t c =
    let there = plan_there (schema_view c.args.plan.now.0) c.flat-flat.result.now c.args.plan.now.2 c.in-Some-named.c
    c.flat-flat.ensures.planned c.in-Some-named.ensures.there in
    (omega (arith, c.decreases), (there, λ d at. (c.in-Some-named.ensures.named c.in-Some-named.c d at refl).fits))

pub build_declared-returns-in_default-clause-gives : goal.build_declared-returns-in_default-clause-gives
build_declared-returns-in_default-clause-gives t c =
    λ h. no_name (core_of c.args.plan.now.0) (maker_of c.args.levels c.args.mode c.args.plan.now.0) h c.args.name.now
    (closed_args c.args.args.now) c.args.begun.now c.args.held.now.name (names_in (map pair_of c.args.held.now.fields))
    (values_of c.args.held.now.fields) (grown c.args.b.now) c.stop_here.result (search rules) (c.stop_here.ensures h)

pub build_declared-returns-in_default-named-clause-gives : goal.build_declared-returns-in_default-named-clause-gives
build_declared-returns-in_default-named-clause-gives t c =
    let S = core_of c.args.plan.now.0 in
    let args = closed_args c.args.args.now in
    λ h. none_enters S (maker_of c.args.levels c.args.mode c.args.plan.now.0) h c.args.name.now args c.args.begun.now
    c.args.held.now.name c.in-Some.shown (names_in (map pair_of c.args.held.now.fields))
    (values_of c.args.held.now.fields) (grown c.args.b.now) c.stop_here-in_default-named.result (search rules)
    (named_none S c.args.name.now c.in-Some.shown args c.in_default-named.ensures.only)
    (c.stop_here-in_default-named.ensures h)

pub build_declared-returns-then-not-has_all-clause-gives : goal.build_declared-returns-then-not-has_all-clause-gives
build_declared-returns-then-not-has_all-clause-gives t c =
    let S = core_of c.args.plan.now.0 in
    let args = closed_args c.args.args.now in
    let ch = chosen_at S c.args.name.now c.in-Some.shown args c.in-Some-named.c c.in-Some-named.ensures.there
    c.in-Some-named.ensures.named c.in-Some-named.ensures.only in
    let is = items_in c.args.plan.now.1 (type_at c.args.plan.now.1) None c.operations-ops.result.now in
    let fs = c.as_slice-fields.result.now in
    λ h. one_misnamed S (maker_of c.args.levels c.args.mode c.args.plan.now.0) h c.args.name.now args c.args.begun.now
    c.args.held.now.name c.in-Some.shown (names_in (map pair_of c.args.held.now.fields))
    (values_of c.args.held.now.fields) (grown c.args.b.now) ch.declaration ch.scope is
    c.stop_here-then-not-has_all.result
    (search rules) ch.is (c.operations-ops.ensures.items ch.declaration ch.there)
    (let T : List (List ℕ × Value) → Type 0 = λ z. has_fields (names_in (map pair_of z)) (values_of z) is ≡ false in
    subst T c.as_slice-fields.ensures (sym c.if-not-has_all.ensures))
    (c.stop_here-then-not-has_all.ensures h)

pub build_declared-returns-in-Err-clause-gives : goal.build_declared-returns-in-Err-clause-gives
build_declared-returns-in-Err-clause-gives t c =
    let S = core_of c.args.plan.now.0 in
    let args = closed_args c.args.args.now in
    let R = maker_of c.args.levels c.args.mode c.args.plan.now.0 in
    let ch = chosen_at S c.args.name.now c.in-Some.shown args c.in-Some-named.c c.in-Some-named.ensures.there
    c.in-Some-named.ensures.named c.in-Some-named.ensures.only in
    let d = ch.declaration in
    let is = items_in c.args.plan.now.1 (type_at c.args.plan.now.1) None c.operations-ops.result.now in
    let number_is = had (λ (z : Declaration). z.number) (slice_get S c.in-Some-named.c) d c.number.result ch.there
    c.number.ensures in
    let fields = c.as_slice-fields.ensures in
    let T : List (List ℕ × Value) → Type 0 = λ z. has_fields (names_in (map pair_of z)) (values_of z) is ≡ true in
    let U : List (List ℕ × Value) → Type 0 = λ z. Stops (start d) c.in-Err.error
    (make_inside R d ch.scope c.args.begun.now (values_of z) (grown c.args.b.now)) in
    λ h. stops_same h c.in_constructor.result _ _
    (one_enters S R h c.args.name.now args c.args.begun.now
    c.args.held.now.name c.in-Some.shown (names_in (map pair_of c.args.held.now.fields))
    (values_of c.args.held.now.fields) (grown c.args.b.now) d ch.scope is (search rules) ch.is
    (c.operations-ops.ensures.items d ch.there) (subst T fields (sym c.if-not-has_all.ensures)))
    (stops_moved (start d) h c.in-Err.error c.in_constructor.result _
    (λ p. c.in_constructor.ensures h d p ch.named.of_type number_is)
    (subst U fields (c.in-Err.ensures.gives d ch.scope ch.there ch.fits)))

pub build_declared-returns-in-Ok-clause-gives : goal.build_declared-returns-in-Ok-clause-gives
build_declared-returns-in-Ok-clause-gives t c =
    let S = core_of c.args.plan.now.0 in
    let args = closed_args c.args.args.now in
    let R = maker_of c.args.levels c.args.mode c.args.plan.now.0 in
    let ch = chosen_at S c.args.name.now c.in-Some.shown args c.in-Some-named.c c.in-Some-named.ensures.there
    c.in-Some-named.ensures.named c.in-Some-named.ensures.only in
    let d = ch.declaration in
    let is = items_in c.args.plan.now.1 (type_at c.args.plan.now.1) None c.operations-ops.result.now in
    let fields = c.as_slice-fields.ensures in
    let T : List (List ℕ × Value) → Type 0 = λ z. has_fields (names_in (map pair_of z)) (values_of z) is ≡ true in
    let U : List (List ℕ × Value) → Type 0 = λ z. make_inside R d ch.scope c.args.begun.now (values_of z)
    (grown c.args.b.now)
    ≡ Ok (made c.build_constructor.new.b c.in-Ok.outputs) in
    λ h. one_enters S R h c.args.name.now args c.args.begun.now
    c.args.held.now.name c.in-Some.shown (names_in (map pair_of c.args.held.now.fields))
    (values_of c.args.held.now.fields) (grown c.args.b.now) d ch.scope is (search rules) ch.is
    (c.operations-ops.ensures.items d ch.there) (subst T fields (sym c.if-not-has_all.ensures))
    ∙ subst U fields (c.in-Ok.ensures.gives d ch.scope ch.there ch.fits)

pub build_type-returns-in-Record-clause-gives : goal.build_type-returns-in-Record-clause-gives
build_type-returns-in-Record-clause-gives t c =
    let r = c.in-Record.held in
    let S = core_of c.args.plan.now.0 in
    let R = maker_of c.args.levels c.args.mode c.args.plan.now.0 in
    let seen : value_view c.args.value.now ≡ record_of r.name (names_in (map pair_of r.fields)) (values_of r.fields) =
    rw c.in-Record.is (search (the_lemmas, rules)) in
    λ h. gives_same h (made c.build_record.new.b) c.build_record.result _ _
    (as_record c.args.mode S R h (type_view c.args.ty.now) c.args.begun.now (value_view c.args.value.now)
    (grown c.args.b.now)
    r.name (names_in (map pair_of r.fields)) (values_of r.fields) seen) (c.build_record.ensures.gives h)

pub build_record-returns-in_default-clause-gives : goal.build_record-returns-in_default-clause-gives
build_record-returns-in_default-clause-gives t c =
    λ h. stops_at h c.stop_here.result (stuck h Shape) _ (c.stop_here.ensures h)
    (c.in_default.ensures.none (core_of c.args.plan.now.0) (maker_of c.args.levels c.args.mode c.args.plan.now.0) h
    c.args.begun.now c.args.held.now.name (names_in (map pair_of c.args.held.now.fields))
    (values_of c.args.held.now.fields)
    (grown c.args.b.now))

pub build_record-returns-clause-gives : goal.build_record-returns-clause-gives
build_record-returns-clause-gives t c =
    let S = core_of c.args.plan.now.0 in
    let R = maker_of c.args.levels c.args.mode c.args.plan.now.0 in
    λ h. gives_same h (made c.build_declared.new.b) c.build_declared.result _ _
    (ap (λ (z : Closed). named_at S R h (goals.typed z) c.args.begun.now c.args.held.now.name
    (names_in (map pair_of c.args.held.now.fields)) (values_of c.args.held.now.fields) (grown c.args.b.now))
    c.in-Some.ensures.is)
    (c.build_declared.ensures.gives h)

pub build_series-returns-in_default-clause-gives : goal.build_series-returns-in_default-clause-gives
build_series-returns-in_default-clause-gives t c =
    λ h. stops_at h c.stop_here.result (stuck h Shape) _ (c.stop_here.ensures h)
    (c.in_default.ensures.none (maker_of c.args.levels c.args.mode c.args.plan.now.0) h c.args.begun.now
    (list_of c.args.items.now) (grown c.args.b.now))

pub build_series-returns-clause-gives : goal.build_series-returns-clause-gives
build_series-returns-clause-gives t c =
    let R = maker_of c.args.levels c.args.mode c.args.plan.now.0 in
    λ h. gives_same h (made c.build_list.new.b) c.build_list.result _ _
    (ap (λ (z : Closed). list_at R h (goals.typed z) c.args.begun.now (list_of c.args.items.now) (grown c.args.b.now))
    c.in-Some.ensures.is)
    (c.build_list.ensures.gives h)

pub build_held-returns-in_default-clause-gives : goal.build_held-returns-in_default-clause-gives
build_held-returns-in_default-clause-gives t c =
    λ h. stops_at h c.stop_here.result (stuck h Shape) _ (c.stop_here.ensures h)
    (c.in_default.ensures.none (maker_of c.args.levels c.args.mode c.args.plan.now.0) h c.args.begun.now
    (value_view c.args.value.now) (grown c.args.b.now))

pub build_held-returns-clause-gives : goal.build_held-returns-clause-gives
build_held-returns-clause-gives t c =
    let R = maker_of c.args.levels c.args.mode c.args.plan.now.0 in
    λ h. gives_same h (made c.build_ref.new.b) c.build_ref.result _ _
    (ap (λ (z : Closed). ref_at R h (goals.typed z) c.args.begun.now (value_view c.args.value.now) (grown c.args.b.now))
    c.in-Some.ensures.is)
    (c.build_ref.ensures.gives h)

pub build_record_cell-returns-in_err-begin-clause-gives : goal.build_record_cell-returns-in_err-begin-clause-gives
build_record_cell-returns-in_err-begin-clause-gives t c =
    let p = err_from_is_err_and c.from_residual.result c.from_residual.ensures.1 in
    λ h. gives_err h (λ (z : Tree). z) c.from_residual.result c.in_err-begin.field-0.0 _ (p.1 ∙ ap Err p.2)
    (inner_begins c.args.levels c.args.mode (core_of c.args.plan.now.0) h
    (record_at c.args.plan.now.1 c.args.first c.args.count)
    (scope_of c.args.env.now c.args.types.now) c.args.begun.now (value_view c.args.value.now) c.in_err-begin.field-0.0
    (c.in_err-begin.ensures.begins h))

pub build_record_cell-returns-in_err-build_inner-clause-gives :
    goal.build_record_cell-returns-in_err-build_inner-clause-gives
build_record_cell-returns-in_err-build_inner-clause-gives t c =
    let p = err_from_is_err_and c.from_residual-in_err-build_inner.result
    c.from_residual-in_err-build_inner.ensures.1 in
    λ h. gives_err h (λ (z : Tree). z) c.from_residual-in_err-build_inner.result c.in_err-build_inner.field-0.0 _
    (p.1 ∙ ap Err p.2)
    (record_stops c.args.levels c.args.mode (core_of c.args.plan.now.0) h
    (record_at c.args.plan.now.1 c.args.first c.args.count)
    (scope_of c.args.env.now c.args.types.now) c.args.begun.now c.begin.new.begun (value_view c.args.value.now)
    (grown c.in_ok-content.content) c.in_err-build_inner.field-0.0 (c.in_ok-begin.ensures.begins h)
    c.in_ok-content.ensures
    (c.in_err-build_inner.ensures.gives h))

pub build_record_cell-returns-clause-gives : goal.build_record_cell-returns-clause-gives
build_record_cell-returns-clause-gives t c =
    λ h. record_on c.args.levels c.args.mode (core_of c.args.plan.now.0) h
    (record_at c.args.plan.now.1 c.args.first c.args.count)
    (scope_of c.args.env.now c.args.types.now) c.args.begun.now c.begin.new.begun (value_view c.args.value.now)
    (grown c.in_ok-content.content) (made c.build_inner.new.b c.in_ok-build_inner.field-0) c.in_ok-finish.field-0
    (c.in_ok-begin.ensures.begins h) c.in_ok-content.ensures (c.in_ok-build_inner.ensures.gives h)
    c.in_ok-finish.ensures

pub build_record_ref-returns-in_err-cell-clause-gives : goal.build_record_ref-returns-in_err-cell-clause-gives
build_record_ref-returns-in_err-cell-clause-gives t c =
    let p = err_from_is_err_and c.from_residual.result c.from_residual.ensures.1 in
    λ h. gives_err h (made c.args.b.now) c.from_residual.result c.in_err-cell.field-0.0 _ (p.1 ∙ ap Err p.2)
    (child_stops (maker_of c.args.levels c.args.mode c.args.plan.now.0) h
    (goals.at_fields (record_at c.args.plan.now.1 c.args.first c.args.count) (scope_of c.args.env.now c.args.types.now))
    c.args.begun.now
    (value_view c.args.value.now) (grown c.args.b.now) c.in_err-cell.field-0.0 (c.in_err-cell.ensures.gives h))

pub build_record_ref-returns-in_err-put_ref-clause-gives : goal.build_record_ref-returns-in_err-put_ref-clause-gives
build_record_ref-returns-in_err-put_ref-clause-gives t c =
    let p = err_from_is_err_and c.from_residual-in_err-put_ref.result c.from_residual-in_err-put_ref.ensures.1 in
    λ h. gives_err h (made c.put_ref.new.b) c.from_residual-in_err-put_ref.result c.in_err-put_ref.field-0.0 _
    (p.1 ∙ ap Err p.2)
    (child_crowded (maker_of c.args.levels c.args.mode c.args.plan.now.0) h
    (goals.at_fields (record_at c.args.plan.now.1 c.args.first c.args.count) (scope_of c.args.env.now c.args.types.now))
    c.args.begun.now
    (value_view c.args.value.now) (grown c.args.b.now) c.in_ok-cell.cell c.in_err-put_ref.field-0.0
    (c.in_ok-cell.ensures.gives h)
    (c.in_err-put_ref.ensures h))

pub build_record_ref-returns-clause-gives : goal.build_record_ref-returns-clause-gives
build_record_ref-returns-clause-gives t c =
    λ h. child_on (maker_of c.args.levels c.args.mode c.args.plan.now.0) h
    (goals.at_fields (record_at c.args.plan.now.1 c.args.first c.args.count) (scope_of c.args.env.now c.args.types.now))
    c.args.begun.now
    (value_view c.args.value.now) (grown c.args.b.now) c.in_ok-cell.cell (grown c.put_ref.new.b)
    (c.in_ok-cell.ensures.gives h)
    (c.in_ok-put_ref.ensures h)
