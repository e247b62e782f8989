use Rattle.std.proofs.Common.{arith, ◌+◌, ◌++◌, ◌∷◌, ◌∙◌, ◌≤◌, map, sym, ap, refl, [], None, Some, Ok, Err, List, length, subst, drop}
use Rattle.std.proofs.Common.{option_map}
use Rattle.std.specs.Borrow.{Bor}
use Rattle.std.proofs.lemmas.Result.{err_from_is_err_and}
use Rattle.cell_nodes.specs.Constructed.{stub}
use Rattle.cell_nodes.specs.declared.tree.Tree.{Tree}
use Rattle.closed_type.specs.View.{closed_type as type_view, closed_args}
use Rattle.flat_form.specs.Sound.{OpsAreSound}
use Rattle.flat_form.specs.Stands.{record_at}
use Rattle.flat_form.specs.declared.lists.Flat.{Flat}
use Rattle.flat_form.specs.declared.lists.PlanOp.{PlanOp}
use Rattle.flat_form.specs.declared.lists.PlanOp.TheVariants.{Check}
use Rattle.plan_closing.specs.Counted.{scope_of}
use Rattle.plan_reading.specs.Shaped.{governed}
use Rattle.schema_leads.specs.Tags.{cores}
use Rattle.spelling.specs.Goals as goals
use Rattle.tlb_syntax.specs.View.{schema as schema_view}
use Rattle.typed_value.specs.View.{names_in, pair_of, pairs_of, vals_in, value as value_view}
use Rattle.pruned_proof.specs.View.{rests_of}
use Rattle.pruned_proof.specs.Wanted.{Rests, below, cut_at, cut_edge_for, cut_for}
use Rattle.spelling.specs.Slices.{nothing}
use Rattle.nat_solver.specs.declared.compare.Op.TheVariants.{Eq}
use Rattle.std.proofs.lemmas.List.{nil_from_length}
use Rattle.std.proofs.lemmas.Option.{none-some, same_Some}
use Rattle.plan_reading.specs.Slots.{slots_view}
use Rattle.typed_value.specs.View.{record_parts, slice_of}
use Rattle.pruned_proof.proofs.Chosen.{entry_range, entry_sound}
use Rattle.pruned_proof.proofs.Chosen.{outputs_plain, planned_there}
use Rattle.typed_value.specs.Values.{Plain}
use Rattle.pruned_proof.proofs.Declared.{entered, no_constructor, no_fit, no_name}
use Rattle.pruned_proof.proofs.Edges.{no_edge}
use Rattle.pruned_proof.proofs.Seen.{is_bits, is_list, is_map, is_number, is_ref, is_rest, is_shown}
use Rattle.pruned_proof.proofs.Forms.{at_declared, at_reference, no_bare, no_declared, no_map_there, no_reference, no_repetition}
use Rattle.pruned_proof.specs.Walks.{Is}
use Rattle.typed_value.specs.Values as forms
use Rattle.typed_value.specs.View.{vals_of}
use Rattle.pruned_proof.proofs.Typed.{inside}
use Rattle.pruned_proof.proofs.Branched.{no_first, one_first}
use Rattle.pruned_proof.proofs.Typed.{bits_give, empty_map, number_gives, ref_outs, rest_gives}
use Rattle.pruned_proof.proofs.Typed.{some_map}
use Rattle.pruned_proof.proofs.Branched.{fork_moves, leaf_made}
use Rattle.pruned_proof.proofs.Branched.{moves_as}
use Rattle.pruned_proof.proofs.Forks.{at_fork, bits_left, leaf_at}
use Rattle.pruned_proof.proofs.Inner.{inner_due, item_at, items_done}
use Rattle.pruned_proof.proofs.Sorted.{here_at, list_at, under_at}
use Rattle.pruned_proof.proofs.Shaped.{field_at, last_due, next_due}
use Rattle.pruned_proof.proofs.Taken.{branch_taken, closed_cell, ref_taken, stopped, under_taken}
use Rattle.pruned_proof.proofs.Turned.{bound_as, op_field, op_no_field, op_solved, op_unsolved}
use Rattle.pruned_proof.proofs.Filling.{type_fills, filled_cell}
use Rattle.pruned_proof.proofs.Led.{gives_as, one_put, none_left, led, led_fields}
use Rattle.pruned_proof.proofs.Recorded.{no_record}
use Rattle.pruned_proof.proofs.Shaped.{here_outs, under_outs, left_is, here_within, under_within}
use Rattle.plan_reading.specs.declared.shapes.FlatShape.TheVariants.{Here, Under, LeftOut}
use Rattle.pruned_proof.proofs.walking.+cut.Goals as goal

pub cut_ref-returns-in_err-child : goal.cut_ref-returns-in_err-child
cut_ref-returns-in_err-child t c = λ d outs after is l.
    let p = err_from_is_err_and c.from_residual.result c.from_residual.ensures.1 in
    let x = led (cores (schema_view c.args.plan.now.0)) d (type_view c.args.inner.now) (value_view c.args.held.now)
    c.args.levels c.args.cell.now.left outs after is l in
    none_left {B = Bor Tree} _ c.from_residual.result c.in_err-child.field-0.0 c.args.cell.now.left after.refs x.child
    (p.1 ∙ ap Err p.2) c.in_err-child.ensures.none x.there

pub cut_ref-returns-then-is_nothing : goal.cut_ref-returns-then-is_nothing
cut_ref-returns-then-is_nothing t c = λ d outs after is l.
    let child = c.in_ok-child.child.now in
    let x = ref_taken (cores (schema_view c.args.plan.now.0)) d (type_view c.args.inner.now) (value_view c.args.held.now)
    c.args.levels c.args.cell.now.left outs after is l c.next.new.self.left child (rests_of c.args.wanted.now)
    c.in_ok-child.ensures.ok in
    one_put c.args.cell.now c.next.new.self c.hide.new.self (stub child 0) c.hide.result after.refs
    (cut_for (rests_of c.args.wanted.now) d) c.next.ensures.made c.hide.ensures.ok c.hide.ensures.left
    c.hide.ensures.err x.rest (x.hidden (sym c.if-is_nothing.ensures))

pub cut_ref-returns-then-is_whole : goal.cut_ref-returns-then-is_whole
cut_ref-returns-then-is_whole t c = λ d outs after is l.
    let child = c.in_ok-child.child.now in
    let x = ref_taken (cores (schema_view c.args.plan.now.0)) d (type_view c.args.inner.now) (value_view c.args.held.now)
    c.args.levels c.args.cell.now.left outs after is l c.next.new.self.left child (rests_of c.args.wanted.now)
    c.in_ok-child.ensures.ok in
    one_put c.args.cell.now c.next.new.self c.keep.new.self child c.keep.result after.refs
    (cut_for (rests_of c.args.wanted.now) d) c.next.ensures.made c.keep.ensures.ok c.keep.ensures.left
    c.keep.ensures.err x.rest (x.kept (sym c.if-is_whole.ensures))

pub cut_ref-returns-then-is_raw : goal.cut_ref-returns-then-is_raw
cut_ref-returns-then-is_raw t c = λ d outs after is l.
    let child = c.in_ok-child.child.now in
    let x = ref_taken (cores (schema_view c.args.plan.now.0)) d (type_view c.args.inner.now) (value_view c.args.held.now)
    c.args.levels c.args.cell.now.left outs after is l c.next.new.self.left child (rests_of c.args.wanted.now)
    c.in_ok-child.ensures.ok in
    one_put c.args.cell.now c.next.new.self c.keep-then-is_raw.new.self child c.keep-then-is_raw.result after.refs
    (cut_for (rests_of c.args.wanted.now) d) c.next.ensures.made c.keep-then-is_raw.ensures.ok c.keep-then-is_raw.ensures.left
    c.keep-then-is_raw.ensures.err x.rest (x.raw (sym c.if-is_raw.ensures) (sym c.if-is_nothing.ensures))

pub cut_ref-returns-in_err-made : goal.cut_ref-returns-in_err-made
cut_ref-returns-in_err-made t c = λ d outs after is l.
    let child = c.in_ok-child.child.now in
    let x = ref_taken (cores (schema_view c.args.plan.now.0)) d (type_view c.args.inner.now) (value_view c.args.held.now)
    c.args.levels c.args.cell.now.left outs after is l c.next.new.self.left child (rests_of c.args.wanted.now)
    c.in_ok-child.ensures.ok in
    let o = x.opened (sym c.if-is_raw.ensures) (sym c.if-is_nothing.ensures) in
    stopped _ c.from_residual-in_err-made.result c.in_err-made.field-0.0 c.from_residual-in_err-made.ensures.1
    (c.in_err-made.ensures o.inner o.is o.fills)

pub cut_ref-returns : goal.cut_ref-returns
cut_ref-returns t c = λ d outs after is l.
    let child = c.in_ok-child.child.now in
    let x = ref_taken (cores (schema_view c.args.plan.now.0)) d (type_view c.args.inner.now) (value_view c.args.held.now)
    c.args.levels c.args.cell.now.left outs after is l c.next.new.self.left child (rests_of c.args.wanted.now)
    c.in_ok-child.ensures.ok in
    let o = x.opened (sym c.if-is_raw.ensures) (sym c.if-is_nothing.ensures) in
    one_put c.args.cell.now c.next.new.self c.put.new.self c.in_ok-made.made c.put.result after.refs
    (cut_for (rests_of c.args.wanted.now) d) c.next.ensures.made c.put.ensures.ok c.put.ensures.left c.put.ensures.err x.rest
    (o.made ∙ ap (λ (z : Tree). z ∷ []) (sym (c.in_ok-made.ensures o.inner o.is o.fills)))

pub cut_cell-returns-in_err-cut_value : goal.cut_cell-returns-in_err-cut_value
cut_cell-returns-in_err-cut_value t c = λ d is f.
    let S = cores (schema_view c.args.plan.now.0) in
    let k = rests_of c.args.wanted.now in
    let x = type_fills S d (type_view c.args.ty.now) c.args.from.now c.of-inner.result.left f c.of-inner.ensures.left in
    stopped _ c.from_residual.result c.in_err-cut_value.field-0.0 c.from_residual.ensures.1
    (c.in_err-cut_value.ensures d x.outs _ is x.lies)

pub cut_cell-returns : goal.cut_cell-returns
cut_cell-returns t c = λ d is f.
    let S = cores (schema_view c.args.plan.now.0) in
    let k = rests_of c.args.wanted.now in
    let x = type_fills S d (type_view c.args.ty.now) c.args.from.now c.of-inner.result.left f c.of-inner.ensures.left in
    let m = c.in_ok-cut_value.ensures d x.outs _ is x.lies in
    closed_cell c.finish.result c.args.from.now c.of-inner.result c.cut_value.new.cell (cut_for k d) c.finish.ensures.ok
    c.finish.ensures.unread m.1 c.of-inner.ensures.made
    (filled_cell S (goals.under_ref (type_view c.args.ty.now)) d c.args.from.now k f)

pub cut_under-returns-in_err-child : goal.cut_under-returns-in_err-child
cut_under-returns-in_err-child t c = λ d outs after is l.
    let p = err_from_is_err_and c.from_residual.result c.from_residual.ensures.1 in
    let S = cores (schema_view c.args.plan.now.0) in
    let items = record_at c.args.plan.now.1 c.args.first c.args.count in
    let scope = scope_of c.args.env.now c.args.types.now in
    let x = led_fields S d items scope (value_view c.args.value.now) c.args.levels c.args.cell.now.left outs after is l in
    none_left {B = Bor Tree} _ c.from_residual.result c.in_err-child.field-0.0 c.args.cell.now.left after.refs x.leads.child
    (p.1 ∙ ap Err p.2) c.in_err-child.ensures.none x.leads.there

pub cut_under-returns-then-is_nothing : goal.cut_under-returns-then-is_nothing
cut_under-returns-then-is_nothing t c = λ d outs after is l.
    let child = c.in_ok-child.child.now in
    let x = under_taken (cores (schema_view c.args.plan.now.0)) d (record_at c.args.plan.now.1 c.args.first c.args.count)
    (scope_of c.args.env.now c.args.types.now) (value_view c.args.value.now) c.args.levels c.args.cell.now.left outs after is l
    c.next.new.self.left child (rests_of c.args.wanted.now) c.in_ok-child.ensures.ok in
    one_put c.args.cell.now c.next.new.self c.hide.new.self (stub child 0) c.hide.result after.refs
    (cut_for (rests_of c.args.wanted.now) d) c.next.ensures.made c.hide.ensures.ok c.hide.ensures.left
    c.hide.ensures.err x.rest (x.hidden (sym c.if-is_nothing.ensures))

pub cut_under-returns-then-is_whole : goal.cut_under-returns-then-is_whole
cut_under-returns-then-is_whole t c = λ d outs after is l.
    let child = c.in_ok-child.child.now in
    let x = under_taken (cores (schema_view c.args.plan.now.0)) d (record_at c.args.plan.now.1 c.args.first c.args.count)
    (scope_of c.args.env.now c.args.types.now) (value_view c.args.value.now) c.args.levels c.args.cell.now.left outs after is l
    c.next.new.self.left child (rests_of c.args.wanted.now) c.in_ok-child.ensures.ok in
    one_put c.args.cell.now c.next.new.self c.keep.new.self child c.keep.result after.refs
    (cut_for (rests_of c.args.wanted.now) d) c.next.ensures.made c.keep.ensures.ok c.keep.ensures.left
    c.keep.ensures.err x.rest (x.kept (sym c.if-is_whole.ensures))

pub cut_under-returns-in_default : goal.cut_under-returns-in_default
cut_under-returns-in_default t c = λ d outs after is l.
    let child = c.in_ok-child.child.now in
    let x = under_taken (cores (schema_view c.args.plan.now.0)) d (record_at c.args.plan.now.1 c.args.first c.args.count)
    (scope_of c.args.env.now c.args.types.now) (value_view c.args.value.now) c.args.levels c.args.cell.now.left outs after is l
    c.next.new.self.left child (rests_of c.args.wanted.now) c.in_ok-child.ensures.ok in
    absurd (x.holds (ap (option_map _) (sym c.in_default.is) ∙ c.held.ensures))

pub cut_under-returns-in_err-cut_inner : goal.cut_under-returns-in_err-cut_inner
cut_under-returns-in_err-cut_inner t c = λ d outs after is l.
    let child = c.in_ok-child.child.now in
    let x = under_taken (cores (schema_view c.args.plan.now.0)) d (record_at c.args.plan.now.1 c.args.first c.args.count)
    (scope_of c.args.env.now c.args.types.now) (value_view c.args.value.now) c.args.levels c.args.cell.now.left outs after is l
    c.next.new.self.left child (rests_of c.args.wanted.now) c.in_ok-child.ensures.ok in
    let o = x.opened (sym c.if-is_nothing.ensures) (value_view c.in-Some.held.now)
    (ap (option_map _) (sym c.in-Some.is) ∙ c.held.ensures) c.of-content.result.left c.of-content.ensures.left in
    stopped _ c.from_residual-in_err-cut_inner.result c.in_err-cut_inner.field-0.0 c.from_residual-in_err-cut_inner.ensures.1
    (c.in_err-cut_inner.ensures o.inner o.outs _ o.is_held o.lies)

pub cut_under-returns-in_err-finish : goal.cut_under-returns-in_err-finish
cut_under-returns-in_err-finish t c = λ d outs after is l.
    let child = c.in_ok-child.child.now in
    let x = under_taken (cores (schema_view c.args.plan.now.0)) d (record_at c.args.plan.now.1 c.args.first c.args.count)
    (scope_of c.args.env.now c.args.types.now) (value_view c.args.value.now) c.args.levels c.args.cell.now.left outs after is l
    c.next.new.self.left child (rests_of c.args.wanted.now) c.in_ok-child.ensures.ok in
    let o = x.opened (sym c.if-is_nothing.ensures) (value_view c.in-Some.held.now)
    (ap (option_map _) (sym c.in-Some.is) ∙ c.held.ensures) c.of-content.result.left c.of-content.ensures.left in
    stopped _ c.from_residual-in_err-finish.result c.in_err-finish.field-0.0 c.from_residual-in_err-finish.ensures.1
    (closed_cell (Err c.in_err-finish.field-0.0) child c.of-content.result c.cut_inner.new.cell
    (cut_for (rests_of c.args.wanted.now) o.inner) c.in_err-finish.ensures.ok c.in_err-finish.ensures.unread
    (c.in_ok-cut_inner.ensures o.inner o.outs _ o.is_held o.lies) c.of-content.ensures.made o.cell)

pub cut_under-returns : goal.cut_under-returns
cut_under-returns t c = λ d outs after is l.
    let child = c.in_ok-child.child.now in
    let x = under_taken (cores (schema_view c.args.plan.now.0)) d (record_at c.args.plan.now.1 c.args.first c.args.count)
    (scope_of c.args.env.now c.args.types.now) (value_view c.args.value.now) c.args.levels c.args.cell.now.left outs after is l
    c.next.new.self.left child (rests_of c.args.wanted.now) c.in_ok-child.ensures.ok in
    let o = x.opened (sym c.if-is_nothing.ensures) (value_view c.in-Some.held.now)
    (ap (option_map _) (sym c.in-Some.is) ∙ c.held.ensures) c.of-content.result.left c.of-content.ensures.left in
    let whole = closed_cell (Ok c.in_ok-finish.field-0) child c.of-content.result c.cut_inner.new.cell
    (cut_for (rests_of c.args.wanted.now) o.inner) c.in_ok-finish.ensures.ok c.in_ok-finish.ensures.unread
    (c.in_ok-cut_inner.ensures o.inner o.outs _ o.is_held o.lies) c.of-content.ensures.made o.cell in
    one_put c.args.cell.now c.next.new.self c.put.new.self c.in_ok-finish.field-0 c.put.result after.refs
    (cut_for (rests_of c.args.wanted.now) d) c.next.ensures.made c.put.ensures.ok c.put.ensures.left c.put.ensures.err x.rest
    (o.made ∙ ap (λ (z : Tree). z ∷ []) (sym whole))

pub cut_inner-returns-in_default : goal.cut_inner-returns-in_default
cut_inner-returns-in_default t c = λ d outs after is l.
    absurd (no_record (cores (schema_view c.args.plan.now.0)) (rests_of c.args.wanted.now) (record_at c.args.plan.now.1 c.args.first c.args.count)
    (scope_of c.args.env.now c.args.types.now) (value_view c.args.value.now) c.args.levels c.args.cell.now outs after d is l
    (ap (option_map _) (sym c.in_default.is) ∙ c.fields_of.ensures))

pub cut_inner-returns : goal.cut_inner-returns
cut_inner-returns t c = λ d outs after is l.
    let x = inner_due (cores (schema_view c.args.plan.now.0)) (rests_of c.args.wanted.now) c.flat.result.now c.args.plan.now.1 c.args.first
    c.args.count c.operations-ops.result.now c.flat.ensures.lists c.operations-ops.ensures (scope_of c.args.env.now c.args.types.now)
    (scope_of c.in_ok-inner.inner c.args.types.now) (ap (λ z. scope_of z c.args.types.now) c.in_ok-inner.ensures)
    (value_view c.args.value.now) c.args.levels c.args.cell.now outs after d (map pair_of c.in-Some.fields.now) is l
    (ap (option_map _) (sym c.in-Some.is) ∙ c.fields_of.ensures) in
    gives_as _ _ c.cut_fields.result (λ x m. (m.1, m.2)) (c.cut_fields.ensures x.end after _ x.due)

-- ---- dictionaries

pub cut_branch-returns-then-is_whole : goal.cut_branch-returns-then-is_whole
cut_branch-returns-then-is_whole t c = λ q e n x after less long is at.
    let k = below q (rests_of c.args.wanted.now) in
    let here = rests_of c.in_ok-wanted.wanted in
    let child = c.in_ok-child.child.now in
    let b = branch_taken (cores (schema_view c.args.plan.now.0)) n (type_view c.args.inner.now) q e c.args.key.now x
    c.args.cell.now.left after at child c.next.new.self.left c.in_ok-child.ensures.ok c.slice.result c.in-Some.prefix
    c.in-Some.field-0-1 c.args.end (rests_of c.args.wanted.now) here c.take.result long c.in-Some.is c.take.ensures
    c.slice.ensures c.in_ok-wanted.ensures in
    one_put c.args.cell.now c.next.new.self c.keep.new.self child c.keep.result after
    (cut_at k x (cut_edge_for k q e) ∷ []) c.next.ensures.made c.keep.ensures.ok c.keep.ensures.left c.keep.ensures.err b.rest
    (b.kept (sym c.if-is_whole.ensures))

pub cut_branch-returns-in_err-cut_edge : goal.cut_branch-returns-in_err-cut_edge
cut_branch-returns-in_err-cut_edge t c = λ q e n x after less long is at.
    let here = rests_of c.in_ok-wanted.wanted in
    let child = c.in_ok-child.child.now in
    let b = branch_taken (cores (schema_view c.args.plan.now.0)) n (type_view c.args.inner.now) q e c.args.key.now x
    c.args.cell.now.left after at child c.next.new.self.left c.in_ok-child.ensures.ok c.slice.result c.in-Some.prefix
    c.in-Some.field-0-1 c.args.end (rests_of c.args.wanted.now) here c.take.result long c.in-Some.is c.take.ensures
    c.slice.ensures c.in_ok-wanted.ensures in
    stopped _ c.from_residual-in_err-cut_edge.result c.in_err-cut_edge.field-0.0 c.from_residual-in_err-cut_edge.ensures.1
    (c.in_err-cut_edge.ensures q e n [] nothing less is (b.lies c.of-edge.result.left c.of-edge.ensures.left))

pub cut_branch-returns-in_err-finish : goal.cut_branch-returns-in_err-finish
cut_branch-returns-in_err-finish t c = λ q e n x after less long is at.
    let here = rests_of c.in_ok-wanted.wanted in
    let child = c.in_ok-child.child.now in
    let b = branch_taken (cores (schema_view c.args.plan.now.0)) n (type_view c.args.inner.now) q e c.args.key.now x
    c.args.cell.now.left after at child c.next.new.self.left c.in_ok-child.ensures.ok c.slice.result c.in-Some.prefix
    c.in-Some.field-0-1 c.args.end (rests_of c.args.wanted.now) here c.take.result long c.in-Some.is c.take.ensures
    c.slice.ensures c.in_ok-wanted.ensures in
    stopped _ c.from_residual-in_err-finish.result c.in_err-finish.field-0.0 c.from_residual-in_err-finish.ensures.1
    (closed_cell (Err c.in_err-finish.field-0.0) child c.of-edge.result c.cut_edge.new.cell
    (cut_edge_for here q e) c.in_err-finish.ensures.ok c.in_err-finish.ensures.unread
    (c.in_ok-cut_edge.ensures q e n [] nothing less is (b.lies c.of-edge.result.left c.of-edge.ensures.left))
    c.of-edge.ensures.made b.cell)

pub cut_branch-returns : goal.cut_branch-returns
cut_branch-returns t c = λ q e n x after less long is at.
    let k = below q (rests_of c.args.wanted.now) in
    let here = rests_of c.in_ok-wanted.wanted in
    let child = c.in_ok-child.child.now in
    let b = branch_taken (cores (schema_view c.args.plan.now.0)) n (type_view c.args.inner.now) q e c.args.key.now x
    c.args.cell.now.left after at child c.next.new.self.left c.in_ok-child.ensures.ok c.slice.result c.in-Some.prefix
    c.in-Some.field-0-1 c.args.end (rests_of c.args.wanted.now) here c.take.result long c.in-Some.is c.take.ensures
    c.slice.ensures c.in_ok-wanted.ensures in
    let whole = closed_cell (Ok c.in_ok-finish.field-0) child c.of-edge.result c.cut_edge.new.cell
    (cut_edge_for here q e) c.in_ok-finish.ensures.ok c.in_ok-finish.ensures.unread
    (c.in_ok-cut_edge.ensures q e n [] nothing less is (b.lies c.of-edge.result.left c.of-edge.ensures.left))
    c.of-edge.ensures.made b.cell in
    one_put c.args.cell.now c.next.new.self c.put.new.self c.in_ok-finish.field-0 c.put.result after
    (cut_at k x (cut_edge_for k q e) ∷ []) c.next.ensures.made c.put.ensures.ok c.put.ensures.left c.put.ensures.err b.rest
    (b.opened (sym c.if-is_nothing.ensures) ∙ ap (λ (z : Tree). z ∷ []) (sym whole))

-- ---- fields

pub cut_field-cut_inner-requires : goal.cut_field-cut_inner-requires
cut_field-cut_inner-requires t c = (
  omega (arith, c.decreases),
  here_within c.flat.result.now c.args.plan.now.1 c.args.ty c.in-Ok-Here.first c.in-Ok-Here.count c.in-Ok-Here.field-0
      c.flat.ensures.lists c.requires.there c.in-Ok-Here.ensures.sound c.in-Ok-Here.field-0-is,
)

pub cut_field-cut_under-requires : goal.cut_field-cut_under-requires
cut_field-cut_under-requires t c = (
  omega (arith, c.decreases),
  under_within c.flat.result.now c.args.plan.now.1 c.args.ty c.in-Ok-Under.first c.in-Ok-Under.count c.in-Ok-Under.field-0
      c.flat.ensures.lists c.requires.there c.in-Ok-Under.ensures.sound c.in-Ok-Under.field-0-is,
)

pub cut_field-returns-in-Ok-LeftOut : goal.cut_field-returns-in-Ok-LeftOut
cut_field-returns-in-Ok-LeftOut t c = λ d outs after is l.
    let it = c.in-Ok-LeftOut in
    let inner = field_at (cores (schema_view c.args.plan.now.0)) d c.flat.result.now c.args.plan.now.1 c.args.condition c.args.ty
    (scope_of c.args.env.now c.args.types.now) it.field-0 LeftOut c.args.cell.now.left outs after c.flat.ensures.lists
    it.ensures.shapes it.field-0-is l in
    let x = left_is (cores (schema_view c.args.plan.now.0)) d (rests_of c.args.wanted.now) c.args.cell.now outs after inner in
    (sym x.none, x.moves)

pub cut_field-returns-in_err-cut_inner-in-Ok-Here : goal.cut_field-returns-in_err-cut_inner-in-Ok-Here
cut_field-returns-in_err-cut_inner-in-Ok-Here t c = λ d outs after is l.
    let it = c.in-Ok-Here in
    let inner = field_at (cores (schema_view c.args.plan.now.0)) d c.flat.result.now c.args.plan.now.1 c.args.condition c.args.ty
    (scope_of c.args.env.now c.args.types.now) it.field-0 (Here it.first it.count) c.args.cell.now.left outs after c.flat.ensures.lists
    it.ensures.shapes it.field-0-is l in
    stopped _ c.from_residual.result c.in_err-cut_inner-in-Ok-Here.field-0.0 c.from_residual.ensures.1
    (c.in_err-cut_inner-in-Ok-Here.ensures d outs after is inner)

pub cut_field-returns-in_ok-cut_inner-in-Ok-Here : goal.cut_field-returns-in_ok-cut_inner-in-Ok-Here
cut_field-returns-in_ok-cut_inner-in-Ok-Here t c = λ d outs after is l.
    let it = c.in-Ok-Here in
    let inner = field_at (cores (schema_view c.args.plan.now.0)) d c.flat.result.now c.args.plan.now.1 c.args.condition c.args.ty
    (scope_of c.args.env.now c.args.types.now) it.field-0 (Here it.first it.count) c.args.cell.now.left outs after c.flat.ensures.lists
    it.ensures.shapes it.field-0-is l in (
      sym (here_outs (cores (schema_view c.args.plan.now.0)) d _ _ c.args.cell.now.left outs after inner),
      c.in_ok-cut_inner-in-Ok-Here.ensures d outs after is inner,
    )

pub cut_field-returns-in_err-cut_under-in-Ok-Under : goal.cut_field-returns-in_err-cut_under-in-Ok-Under
cut_field-returns-in_err-cut_under-in-Ok-Under t c = λ d outs after is l.
    let it = c.in-Ok-Under in
    let inner = field_at (cores (schema_view c.args.plan.now.0)) d c.flat.result.now c.args.plan.now.1 c.args.condition c.args.ty
    (scope_of c.args.env.now c.args.types.now) it.field-0 (Under it.first it.count) c.args.cell.now.left outs after c.flat.ensures.lists
    it.ensures.shapes it.field-0-is l in
    stopped _ c.from_residual-in_err-cut_under-in-Ok-Under.result c.in_err-cut_under-in-Ok-Under.field-0.0 c.from_residual-in_err-cut_under-in-Ok-Under.ensures.1
    (c.in_err-cut_under-in-Ok-Under.ensures d outs after is inner)

pub cut_field-returns-in_ok-cut_under-in-Ok-Under : goal.cut_field-returns-in_ok-cut_under-in-Ok-Under
cut_field-returns-in_ok-cut_under-in-Ok-Under t c = λ d outs after is l.
    let it = c.in-Ok-Under in
    let inner = field_at (cores (schema_view c.args.plan.now.0)) d c.flat.result.now c.args.plan.now.1 c.args.condition c.args.ty
    (scope_of c.args.env.now c.args.types.now) it.field-0 (Under it.first it.count) c.args.cell.now.left outs after c.flat.ensures.lists
    it.ensures.shapes it.field-0-is l in (
      sym (under_outs (cores (schema_view c.args.plan.now.0)) d _ _ c.args.cell.now.left outs after inner),
      c.in_ok-cut_under-in-Ok-Under.ensures d outs after is inner,
    )

pub cut_fields-returns-in_err-next : goal.cut_fields-returns-in_err-next
cut_fields-returns-in_err-next t c = λ end after all x.
    let at = c.loop-op in
    let due = next_due (cores (schema_view c.args.plan.now.0)) (rests_of c.args.wanted.now) c.args.levels end after all c.args.plan.now.1
    (governed c.args.plan.now.1 at.condition) c.args.ops.now at.op-index (scope_of at.env c.args.types.now) (map pair_of at.due.now)
    at.cell (Check 0 Eq 0 0) c.loop-op-test.true (at.invariant.due end after all x) in
    stopped _ c.from_residual.result c.in_err-next.field-0.0 c.from_residual.ensures.1
    (c.in_err-next.ensures.gives (drop (at.op-index + 1) c.args.ops.now) end after all due)

pub cut_fields-returns : goal.cut_fields-returns
cut_fields-returns t c = λ end after all x.
    let at = c.loop-op in
    let m = last_due (cores (schema_view c.args.plan.now.0)) (rests_of c.args.wanted.now) c.args.levels end after all c.args.plan.now.1
    (governed c.args.plan.now.1 at.condition) c.args.ops.now at.op-index (scope_of at.env c.args.types.now) (map pair_of at.due.now)
    at.cell c.loop-op-test.false (at.invariant.due end after all x) in
    (m.scope_is, m.left, m.made)

pub cut_op-returns-in-Ok-clause-gives : goal.cut_op-returns-in-Ok-clause-gives
cut_op-returns-in-Ok-clause-gives t c = λ ops end after all x.
    let it = c.in-Solve in
    op_solved (cores (schema_view c.args.plan.now.0)) (rests_of c.args.wanted.now) c.args.levels end after all c.args.plan.now.1
    (governed c.args.plan.now.1 c.args.condition) c.args.op ops (map pair_of c.args.fields.now) c.args.cell.now c.flat-flat.result.now
    (length c.args.plan.now.1.types) it.slot it.left it.right it.field-3 c.in-Ok.number c.args.env.now c.set.new.env
    c.args.types.now it.is c.flat-flat.ensures.lists c.requires.sound c.in-Ok.ensures c.set.ensures x

pub cut_op-returns-in-Err-clause-gives : goal.cut_op-returns-in-Err-clause-gives
cut_op-returns-in-Err-clause-gives t c = λ ops end after all x.
    let it = c.in-Solve in
    absurd (op_unsolved (cores (schema_view c.args.plan.now.0)) (rests_of c.args.wanted.now) c.args.levels end after all c.args.plan.now.1
    (governed c.args.plan.now.1 c.args.condition) c.args.op ops (map pair_of c.args.fields.now) c.args.cell.now c.flat-flat.result.now
    (length c.args.plan.now.1.types) it.slot it.left it.right it.field-3 c.in-Err.field-0 c.args.env.now c.args.types.now it.is
    c.flat-flat.ensures.lists c.requires.sound c.in-Err.ensures x)

pub cut_op-returns-in_default-clause-gives : goal.cut_op-returns-in_default-clause-gives
cut_op-returns-in_default-clause-gives t c = λ ops end after all x.
    let it = c.in-Field in
    absurd (op_no_field (cores (schema_view c.args.plan.now.0)) (rests_of c.args.wanted.now) c.args.levels end after all c.args.plan.now.1
    (governed c.args.plan.now.1 c.args.condition) c.args.op ops (map pair_of c.args.fields.now) c.args.cell.now it.field-0 it.ty it.slot
    (scope_of c.args.env.now c.args.types.now) it.is
    (ap (map pair_of) (nil_from_length c.args.fields.now c.in_default.ensures.cases)) x)

pub cut_op-returns-in_err-outputs-in-Field-clause-gives : goal.cut_op-returns-in_err-outputs-in-Field-clause-gives
cut_op-returns-in_err-outputs-in-Field-clause-gives t c = λ ops end after all x.
    let it = c.in-Field in
    let y = op_field (cores (schema_view c.args.plan.now.0)) (rests_of c.args.wanted.now) c.args.levels end after all c.args.plan.now.1
    (governed c.args.plan.now.1 c.args.condition) c.args.op ops (map pair_of c.args.fields.now) c.args.cell.now it.field-0 it.ty it.slot
    (scope_of c.args.env.now c.args.types.now) c.in-Some.field-0-0.now.0 (value_view c.in-Some.field-0-0.now.1)
    (map pair_of c.in-Some.due.now) it.is (ap (map pair_of) c.in-Some.ensures.cases.0) x in
    stopped _ c.from_residual-in_err-outputs-in-Field.result c.in_err-outputs-in-Field.field-0.0
    c.from_residual-in_err-outputs-in-Field.ensures.1
    (c.in_err-outputs-in-Field.ensures y.first y.outs y.middle y.is_first y.lies)

pub cut_op-returns-in_ok-outputs-in-Field-clause-gives : goal.cut_op-returns-in_ok-outputs-in-Field-clause-gives
cut_op-returns-in_ok-outputs-in-Field-clause-gives t c = λ ops end after all x.
    let it = c.in-Field in
    let y = op_field (cores (schema_view c.args.plan.now.0)) (rests_of c.args.wanted.now) c.args.levels end after all c.args.plan.now.1
    (governed c.args.plan.now.1 c.args.condition) c.args.op ops (map pair_of c.args.fields.now) c.args.cell.now it.field-0 it.ty it.slot
    (scope_of c.args.env.now c.args.types.now) c.in-Some.field-0-0.now.0 (value_view c.in-Some.field-0-0.now.1)
    (map pair_of c.in-Some.due.now) it.is (ap (map pair_of) c.in-Some.ensures.cases.0) x in
    let m = c.in_ok-outputs-in-Field.ensures y.first y.outs y.middle y.is_first y.lies in
    let here = ap (λ (z : Rests). cut_for z y.first) c.in_ok-here-in-Field.ensures in
    y.then (scope_of c.bind_outputs.new.env c.args.types.now) c.cut_field.new.cell
    (bound_as c.flat-flat.result.now c.args.plan.now.1 it.ty it.slot _ y.outs (scope_of c.args.env.now c.args.types.now) _
    c.flat-flat.ensures.lists m.0 (c.bind_outputs.ensures c.args.types.now))
    (moves_as _ _ y.middle.refs c.args.cell.now c.cut_field.new.cell here m.1)

-- ---- a declared type

pub cut_declared-entry-entry-requires : goal.cut_declared-entry-entry-requires
cut_declared-entry-entry-requires t c =
    planned_there (schema_view c.args.plan.now.0) c.flat-flat.result.now c.args.plan.now.2 c.in-Some-named.c
    c.flat-flat.ensures.planned c.in-Some-named.ensures.there

pub cut_declared-inputs-requires : goal.cut_declared-inputs-requires
cut_declared-inputs-requires t c =
    planned_there (schema_view c.args.plan.now.0) c.flat-flat.result.now c.args.plan.now.2 c.in-Some-named.c
    c.flat-flat.ensures.planned c.in-Some-named.ensures.there

pub cut_declared-outputs-requires : goal.cut_declared-outputs-requires
cut_declared-outputs-requires t c =
    planned_there (schema_view c.args.plan.now.0) c.flat-flat.result.now c.args.plan.now.2 c.in-Some-named.c
    c.flat-flat.ensures.planned c.in-Some-named.ensures.there

pub cut_declared-values-requires : goal.cut_declared-values-requires
cut_declared-values-requires t c =
    let low = planned_there (schema_view c.args.plan.now.0) c.flat-flat.result.now c.args.plan.now.2 c.in-Some-named.c
    c.flat-flat.ensures.planned c.in-Some-named.ensures.there in
    outputs_plain (schema_view c.args.plan.now.0) c.flat-flat.result.now c.args.plan.now.2 c.in-Some-named.c
    c.flat-flat.ensures.planned low c.outputs.result.now c.outputs.ensures

pub cut_declared-operations-ops-requires : goal.cut_declared-operations-ops-requires
cut_declared-operations-ops-requires t c =
    let low = planned_there (schema_view c.args.plan.now.0) c.flat-flat.result.now c.args.plan.now.2 c.in-Some-named.c
    c.flat-flat.ensures.planned c.in-Some-named.ensures.there in
    entry_range (schema_view c.args.plan.now.0) c.flat-flat.result.now c.args.plan.now.2 c.in-Some-named.c
    c.flat-flat.ensures.planned low c.entry-entry.result c.entry-entry.ensures

pub cut_declared-cut_fields-requires : goal.cut_declared-cut_fields-requires
cut_declared-cut_fields-requires t c =
    let f = c.flat-flat.result.now in
    let low = planned_there (schema_view c.args.plan.now.0) c.flat-flat.result.now c.args.plan.now.2 c.in-Some-named.c
    c.flat-flat.ensures.planned c.in-Some-named.ensures.there in
    let sound = entry_sound (schema_view c.args.plan.now.0) f c.args.plan.now.2 c.in-Some-named.c c.flat-flat.ensures.planned low
    c.entry-entry.result c.entry-entry.ensures in
    let T : List PlanOp → Type 0 = λ z. OpsAreSound f (length f.types) z in
    let P : Flat → Type 0 = λ z. OpsAreSound z (length z.types) c.operations-ops.result.now in
    (omega (arith, c.decreases), subst P c.flat-flat.ensures.lists (subst T (sym c.operations-ops.ensures) sound))

pub cut_declared-returns-in_default : goal.cut_declared-returns-in_default
cut_declared-returns-in_default t c = λ d outs after is l.
    no_name (schema_view c.args.plan.now.0) (rests_of c.args.wanted.now) c.args.levels c.args.name.now
    (closed_args c.args.args.now) c.args.parts.now c.args.cell.now outs after d is l (sym c.in_default.is)

pub cut_declared-returns-in_default-named : goal.cut_declared-returns-in_default-named
cut_declared-returns-in_default-named t c = λ d outs after is l.
    no_constructor (schema_view c.args.plan.now.0) (rests_of c.args.wanted.now) c.args.levels c.args.name.now
    (closed_args c.args.args.now) c.args.parts.now c.args.cell.now outs after d is l c.in-Some.shown c.in-Some.is c.in_default-named.ensures.only

pub cut_declared-returns-in_default-2 : goal.cut_declared-returns-in_default-2
cut_declared-returns-in_default-2 t c = λ d outs after is l.
    no_fit (schema_view c.args.plan.now.0) (rests_of c.args.wanted.now) c.args.levels c.args.name.now
    (closed_args c.args.args.now) c.args.parts.now c.args.cell.now outs after d is l c.in-Some.shown c.in-Some.is c.in-Some-named.c
    c.in-Some-named.ensures.only c.flat-flat.result.now c.args.plan.now.1 c.args.plan.now.2 c.flat-flat.ensures.lists
    c.flat-flat.ensures.planned c.in-Some-named.ensures.there c.entry-entry.result c.entry-entry.ensures c.inputs.result.now
    c.inputs.ensures (sym (ap (option_map slots_view) c.in_default-2.is) ∙ c.in_ok-slots.ensures)

pub cut_declared-returns-in_err-cut_fields : goal.cut_declared-returns-in_err-cut_fields
cut_declared-returns-in_err-cut_fields t c = λ d outs after is l.
    let slots = c.in-Some-2.slots in
    let x = entered (schema_view c.args.plan.now.0) (rests_of c.args.wanted.now) c.args.levels c.args.name.now
    (closed_args c.args.args.now) c.args.parts.now c.args.cell.now outs after d is l c.in-Some.shown c.in-Some.is c.in-Some-named.c
    c.in-Some-named.ensures.only c.flat-flat.result.now c.args.plan.now.1 c.args.plan.now.2 c.flat-flat.ensures.lists
    c.flat-flat.ensures.planned c.in-Some-named.ensures.there c.entry-entry.result c.entry-entry.ensures c.inputs.result.now
    c.inputs.ensures slots (sym (ap (option_map slots_view) c.in-Some-2.is) ∙ c.in_ok-slots.ensures)
    c.as_slice-types.result.now c.as_slice-types.ensures.value c.operations-ops.result.now c.operations-ops.ensures
    c.as_slice-fields.result.now c.as_slice-fields.ensures in
    stopped _ c.from_residual-in_err-cut_fields.result c.in_err-cut_fields.field-0.0 c.from_residual-in_err-cut_fields.ensures.1 (c.in_err-cut_fields.ensures x.end after _ x.due)

pub cut_declared-returns-in-None : goal.cut_declared-returns-in-None
cut_declared-returns-in-None t c = λ d outs after is l.
    let slots = c.in-Some-2.slots in
    let x = entered (schema_view c.args.plan.now.0) (rests_of c.args.wanted.now) c.args.levels c.args.name.now
    (closed_args c.args.args.now) c.args.parts.now c.args.cell.now outs after d is l c.in-Some.shown c.in-Some.is c.in-Some-named.c
    c.in-Some-named.ensures.only c.flat-flat.result.now c.args.plan.now.1 c.args.plan.now.2 c.flat-flat.ensures.lists
    c.flat-flat.ensures.planned c.in-Some-named.ensures.there c.entry-entry.result c.entry-entry.ensures c.inputs.result.now
    c.inputs.ensures slots (sym (ap (option_map slots_view) c.in-Some-2.is) ∙ c.in_ok-slots.ensures)
    c.as_slice-types.result.now c.as_slice-types.ensures.value c.operations-ops.result.now c.operations-ops.ensures
    c.as_slice-fields.result.now c.as_slice-fields.ensures in
    let m = c.in_ok-cut_fields.ensures x.end after _ x.due in
    none-some outs (x.gives c.cut_fields.new.env c.outputs.result.now None c.outputs.ensures
    (sym c.in-None.is ∙ c.in_ok-values.ensures c.as_slice-types.result.now) m.0)

pub cut_declared-returns : goal.cut_declared-returns
cut_declared-returns t c = λ d outs after is l.
    let slots = c.in-Some-2.slots in
    let x = entered (schema_view c.args.plan.now.0) (rests_of c.args.wanted.now) c.args.levels c.args.name.now
    (closed_args c.args.args.now) c.args.parts.now c.args.cell.now outs after d is l c.in-Some.shown c.in-Some.is c.in-Some-named.c
    c.in-Some-named.ensures.only c.flat-flat.result.now c.args.plan.now.1 c.args.plan.now.2 c.flat-flat.ensures.lists
    c.flat-flat.ensures.planned c.in-Some-named.ensures.there c.entry-entry.result c.entry-entry.ensures c.inputs.result.now
    c.inputs.ensures slots (sym (ap (option_map slots_view) c.in-Some-2.is) ∙ c.in_ok-slots.ensures)
    c.as_slice-types.result.now c.as_slice-types.ensures.value c.operations-ops.result.now c.operations-ops.ensures
    c.as_slice-fields.result.now c.as_slice-fields.ensures in
    let m = c.in_ok-cut_fields.ensures x.end after _ x.due in
    let outputs = c.in-Some-3.outputs in (
      same_Some outputs outs (x.gives c.cut_fields.new.env c.outputs.result.now (Some outputs) c.outputs.ensures
          (sym c.in-Some-3.is ∙ c.in_ok-values.ensures c.as_slice-types.result.now) m.0),
      (m.1, m.2),
    )

-- ---- edges

pub cut_edge-returns-in_default : goal.cut_edge-returns-in_default
cut_edge-returns-in_default t c = λ q e n outs after few is l.
    no_edge q e c.args.pairs.now c.args.levels is (nil_from_length c.args.pairs.now c.in_default.ensures.cases)

pub cut_edge-returns-in_err-cut_value : goal.cut_edge-returns-in_err-cut_value
cut_edge-returns-in_err-cut_value t c = λ q e n outs after few is l.
    let first = c.in-Some.field-0-0.now in
    let x = leaf_at (cores (schema_view c.args.plan.now.0)) q e n (type_view c.args.inner.now) c.args.levels first c.args.pairs.now
    c.in-Some.others.now c.args.cell.now.left outs after is l c.in-Some.ensures.cases.0 c.in_default-last.ensures.value in
    stopped _ c.from_residual-in_err-cut_value.result c.in_err-cut_value.field-0.0 c.from_residual-in_err-cut_value.ensures.1
    (c.in_err-cut_value.ensures x.laid x.outs after x.holds x.lies)

pub cut_edge-returns-in_default-last : goal.cut_edge-returns-in_default-last
cut_edge-returns-in_default-last t c = λ q e n outs after few is l.
    let first = c.in-Some.field-0-0.now in
    let x = leaf_at (cores (schema_view c.args.plan.now.0)) q e n (type_view c.args.inner.now) c.args.levels first c.args.pairs.now
    c.in-Some.others.now c.args.cell.now.left outs after is l c.in-Some.ensures.cases.0 c.in_default-last.ensures.value in
    let m = c.in_ok-cut_value.ensures x.laid x.outs after x.holds x.lies in
    moves_as _ (cut_edge_for (rests_of c.args.wanted.now) q e) after.refs c.args.cell.now c.cut_value.new.cell
    (leaf_made (rests_of c.args.wanted.now) (rests_of c.in_ok-wanted.wanted) q x.label first.0 e x.laid x.is_leaf x.key
    c.in_ok-wanted.ensures) m.1

pub cut_edge-returns-then-left-eq0 : goal.cut_edge-returns-then-left-eq0
cut_edge-returns-then-left-eq0 t c = λ q e n outs after few is l.
    absurd (bits_left (cores (schema_view c.args.plan.now.0)) q e n (type_view c.args.inner.now) c.args.left c.args.levels
    c.in-Some.field-0-0.now c.in-Some-last.field-0.now c.args.pairs.now c.in-Some.others.now c.args.cell.now.left outs after few
    is l c.in-Some.ensures.cases.0 (sym c.in-Some-last.ensures.value) c.if-left-eq0.true)

pub cut_edge-returns-in_err-cut_branch : goal.cut_edge-returns-in_err-cut_branch
cut_edge-returns-in_err-cut_branch t c = λ q e n outs after few is l.
    let x = at_fork (cores (schema_view c.args.plan.now.0)) q e n (type_view c.args.inner.now) c.args.left c.args.levels
    c.in-Some.field-0-0.now c.in-Some-last.field-0.now c.args.pairs.now c.in-Some.others.now c.args.cell.now.left outs after few
    is l c.in-Some.ensures.cases.0 (sym c.in-Some-last.ensures.value) c.common-common.result c.turn.result
    c.split_at.result.0.now c.split_at.result.1.now c.common-common.ensures.is c.turn.ensures.turns c.split_at.ensures.front
    c.split_at.ensures.back in
    let zeros = q ++ (x.label ++ 0 ∷ []) in
    stopped _ c.from_residual-in_err-cut_branch.result c.in_err-cut_branch.field-0.0
    c.from_residual-in_err-cut_branch.ensures.1 (c.in_err-cut_branch.ensures zeros x.zero x.less x.zero_cell (x.one_cell ∷ after.refs) x.fewer x.zero_end x.zero_is x.zero_at)

pub cut_edge-returns : goal.cut_edge-returns
cut_edge-returns t c = λ q e n outs after few is l.
    let x = at_fork (cores (schema_view c.args.plan.now.0)) q e n (type_view c.args.inner.now) c.args.left c.args.levels
    c.in-Some.field-0-0.now c.in-Some-last.field-0.now c.args.pairs.now c.in-Some.others.now c.args.cell.now.left outs after few
    is l c.in-Some.ensures.cases.0 (sym c.in-Some-last.ensures.value) c.common-common.result c.turn.result
    c.split_at.result.0.now c.split_at.result.1.now c.common-common.ensures.is c.turn.ensures.turns c.split_at.ensures.front
    c.split_at.ensures.back in
    let zeros = q ++ (x.label ++ 0 ∷ []) in
    let here = c.in_ok-cut_branch.ensures zeros x.zero x.less x.zero_cell (x.one_cell ∷ after.refs) x.fewer x.zero_end x.zero_is x.zero_at in
    let there = c.cut_branch-2.ensures (q ++ (x.label ++ 1 ∷ [])) x.one x.less x.one_cell after.refs x.fewer x.one_end x.one_is
    (x.one_at c.cut_branch.new.cell.left here.0) in
    gives_as _ _ c.cut_branch-2.result
    (λ z m. fork_moves (rests_of c.args.wanted.now) q x.label e x.zero_cell x.zero x.one_cell x.one (x.one_cell ∷ after.refs)
    after.refs c.args.cell.now c.cut_branch.new.cell c.cut_branch-2.new.cell x.is_fork here m) there

pub cut_root_edge-returns-in_default : goal.cut_root_edge-returns-in_default
cut_root_edge-returns-in_default t c = λ d n outs after few is l.
    empty_map (cores (schema_view c.args.plan.now.0)) (rests_of c.args.wanted.now) c.args.levels n
    (type_view c.args.inner.now) c.args.cell.now outs after c.args.pairs.now d (no_first c.args.pairs.now c.in_default.ensures.value) is l

pub cut_root_edge-returns : goal.cut_root_edge-returns
cut_root_edge-returns t c = λ d n outs after few is l.
    let k = rests_of c.args.wanted.now in
    let x = some_map (cores (schema_view c.args.plan.now.0)) c.args.levels n (type_view c.args.inner.now)
    c.args.cell.now.left outs after c.in-Some.field-0.now.0 c.in-Some.field-0.now c.args.pairs.now
    (drop 1 c.args.pairs.now) d (one_first c.args.pairs.now c.in-Some.field-0.now (sym c.in-Some.ensures.value)) is l in
    gives_as _ _ c.cut_branch.result
    (λ z m. moves_as _ (cut_for k d) after.refs c.args.cell.now c.cut_branch.new.cell (x.made k) m)
    (c.cut_branch.ensures [] x.edge n x.cell after.refs few refl x.is_edge x.branch)

-- ---- values

pub cut_value-returns-in-Number : goal.cut_value-returns-in-Number
cut_value-returns-in-Number t c = λ d outs after is l.
    let number = c.in-Number.number in
    number_gives (cores (schema_view c.args.plan.now.0)) (type_view c.args.ty.now) (rests_of c.args.wanted.now) c.args.levels
    c.args.cell.now outs after d number.negative number.size c.own_output.result
    (is_number d c.args.value.now c.args.levels number c.in-Number.is is) l c.own_output.ensures

pub cut_value-returns-in-Bits : goal.cut_value-returns-in-Bits
cut_value-returns-in-Bits t c = λ d outs after is l.
    bits_give (cores (schema_view c.args.plan.now.0)) (type_view c.args.ty.now) (rests_of c.args.wanted.now) c.args.levels
    c.args.cell.now outs after d c.in-Bits.field-0
    (is_bits d c.args.value.now c.args.levels c.in-Bits.field-0 c.in-Bits.is is) l

pub cut_value-returns-in_ok-keep_all-in-Rest : goal.cut_value-returns-in_ok-keep_all-in-Rest
cut_value-returns-in_ok-keep_all-in-Rest t c = λ d outs after is l.
    rest_gives (cores (schema_view c.args.plan.now.0)) (type_view c.args.ty.now) (rests_of c.args.wanted.now) c.args.levels
    c.args.cell.now c.keep_all.new.self outs after d (slice_of c.in-Rest.field-0)
    (is_rest d c.args.value.now c.args.levels c.in-Rest.field-0 c.in-Rest.is is) l
    c.in_ok-keep_all-in-Rest.ensures.ok.0 c.in_ok-keep_all-in-Rest.ensures.ok.1

pub cut_value-returns-in-Ref : goal.cut_value-returns-in-Ref
cut_value-returns-in-Ref t c = λ d outs after is l.
    let it = c.in-Ref in
    let at = subst (λ z. Is d (forms.ref_to tt (value_view z)) c.args.levels) (sym c.get.ensures)
    (is_ref d c.args.value.now c.args.levels it.inner it.is is) in
    c.cut_held.ensures d outs after (inside d _ c.args.levels c.if-levels-eq0.false at) l

pub cut_value-returns-in-List : goal.cut_value-returns-in-List
cut_value-returns-in-List t c = λ d outs after is l.
    let it = c.in-List in
    let at = subst (λ z. Is d (forms.list_of (vals_of (map value_view z))) c.args.levels) (sym c.as_slice-items.ensures)
    (is_list d c.args.value.now c.args.levels it.items it.is is) in
    c.cut_list.ensures d outs after (inside d _ c.args.levels c.if-levels-eq0.false at) l

pub cut_value-returns-in-Map : goal.cut_value-returns-in-Map
cut_value-returns-in-Map t c = λ d outs after is l.
    let it = c.in-Map in
    let at = subst (λ z. Is d (forms.map_of tt (pairs_of (map pair_of z)) it.dict.unknown) c.args.levels) (sym c.as_slice-pairs.ensures)
    (is_map d c.args.value.now c.args.levels it.dict it.is is) in
    c.cut_map.ensures d it.dict.unknown outs after (inside d _ c.args.levels c.if-levels-eq0.false at) l

pub cut_value-returns-in-Record : goal.cut_value-returns-in-Record
cut_value-returns-in-Record t c = λ d outs after is l.
    let it = c.in-Record in
    let at = is_shown d c.args.value.now c.args.levels it.record it.is is in
    c.cut_record.ensures d outs after (inside d _ c.args.levels c.if-levels-eq0.false at) l

pub cut_value-returns-in-Absent : goal.cut_value-returns-in-Absent
cut_value-returns-in-Absent t c = λ d outs after is l.
    no_bare (cores (schema_view c.args.plan.now.0)) d (type_view c.args.ty.now) c.args.levels c.args.cell.now.left outs after l
    c.args.value.now c.in-Absent.is is

-- ---- values at types of their form

pub cut_held-returns-in_default : goal.cut_held-returns-in_default
cut_held-returns-in_default t c = λ d outs after is l.
    absurd (no_reference (cores (schema_view c.args.plan.now.0)) d (type_view c.args.ty.now) (c.args.levels + 1)
    c.args.cell.now.left outs after l (value_view c.args.held.now) is
    (ap (option_map _) (sym c.in_default.is) ∙ c.referred.ensures))

pub cut_held-returns-in_err-cut_ref : goal.cut_held-returns-in_err-cut_ref
cut_held-returns-in_err-cut_ref t c = λ d outs after is l.
    let x = at_reference (cores (schema_view c.args.plan.now.0)) d (type_view c.args.ty.now) (c.args.levels + 1)
    c.args.cell.now.left outs after l (type_view c.in-Some.inner.now)
    (ap (option_map _) (sym c.in-Some.is) ∙ c.referred.ensures) in
    stopped _ c.from_residual.result c.in_err-cut_ref.field-0.0 c.from_residual.ensures.1 (c.in_err-cut_ref.ensures d outs after is x.lies)

pub cut_held-returns : goal.cut_held-returns
cut_held-returns t c = λ d outs after is l.
    let S = cores (schema_view c.args.plan.now.0) in
    let inner = type_view c.in-Some.inner.now in
    let x = at_reference S d (type_view c.args.ty.now) (c.args.levels + 1) c.args.cell.now.left outs after l inner
    (ap (option_map _) (sym c.in-Some.is) ∙ c.referred.ensures) in
    (ref_outs S d inner c.args.cell.now.left outs after x.lies, c.in_ok-cut_ref.ensures d outs after is x.lies)

pub cut_list-returns-in_default : goal.cut_list-returns-in_default
cut_list-returns-in_default t c = λ d outs after is l.
    absurd (no_repetition (cores (schema_view c.args.plan.now.0)) d (type_view c.args.ty.now) (c.args.levels + 1)
    c.args.cell.now.left outs after l (vals_of (map value_view c.args.items.now)) is
    (ap (option_map _) (sym c.in_default.is) ∙ c.repeated.ensures))

pub cut_list-returns-in_err-cut_items : goal.cut_list-returns-in_err-cut_items
cut_list-returns-in_err-cut_items t c = λ d outs after is l.
    let few : c.in-Some.count.now ≤ 4294967295 = omega (arith, c.count_of-count.ensures.same, c.count_of-count.ensures.small) in
    let x = list_at (cores (schema_view c.args.plan.now.0)) (type_view c.args.ty.now) c.args.levels c.args.cell.now outs after d l
    c.in-Some.count.now (type_view c.in-Some.inner.now) (rests_of c.args.wanted.now) (map value_view c.args.items.now) is
    (ap (option_map _) (sym c.in-Some.is) ∙ c.repeated.ensures) few in
    stopped _ c.from_residual.result c.in_err-cut_items.field-0.0 c.from_residual.ensures.1
    (c.in_err-cut_items.ensures after _ x.due)

pub cut_list-returns : goal.cut_list-returns
cut_list-returns t c = λ d outs after is l.
    let few : c.in-Some.count.now ≤ 4294967295 = omega (arith, c.count_of-count.ensures.same, c.count_of-count.ensures.small) in
    let x = list_at (cores (schema_view c.args.plan.now.0)) (type_view c.args.ty.now) c.args.levels c.args.cell.now outs after d l
    c.in-Some.count.now (type_view c.in-Some.inner.now) (rests_of c.args.wanted.now) (map value_view c.args.items.now) is
    (ap (option_map _) (sym c.in-Some.is) ∙ c.repeated.ensures) few in
    (x.none, c.in_ok-cut_items.ensures after _ x.due)

pub cut_map-returns-in_default : goal.cut_map-returns-in_default
cut_map-returns-in_default t c = λ d hidden outs after is l.
    c.cut_map_under.ensures d hidden outs after is (sym (ap (option_map _) (sym c.in_default.is) ∙ c.mapped_here.ensures)) l

pub cut_map-returns-in_err-cut_edge : goal.cut_map-returns-in_err-cut_edge
cut_map-returns-in_err-cut_edge t c = λ d hidden outs after is l.
    let n = c.in-Some.field-0-0.now in
    let x = here_at (cores (schema_view c.args.plan.now.0)) (type_view c.args.ty.now) c.args.levels c.args.cell.now outs after d l n
    (type_view c.in-Some.inner.now) (pairs_of (map pair_of c.args.pairs.now)) hidden is
    (ap (option_map _) (sym c.in-Some.is) ∙ c.mapped_here.ensures) in
    stopped _ c.from_residual.result c.in_err-cut_edge.field-0.0 c.from_residual.ensures.1
    (c.in_err-cut_edge.ensures [] x.dict.edge n [] after x.few x.dict.is_edge x.dict.lies)

pub cut_map-returns : goal.cut_map-returns
cut_map-returns t c = λ d hidden outs after is l.
    let n = c.in-Some.field-0-0.now in
    let x = here_at (cores (schema_view c.args.plan.now.0)) (type_view c.args.ty.now) c.args.levels c.args.cell.now outs after d l n
    (type_view c.in-Some.inner.now) (pairs_of (map pair_of c.args.pairs.now)) hidden is
    (ap (option_map _) (sym c.in-Some.is) ∙ c.mapped_here.ensures) in (
      x.dict.none,
      moves_as _ (cut_for (rests_of c.args.wanted.now) d) after.refs c.args.cell.now c.cut_edge.new.cell
          (x.dict.made (rests_of c.args.wanted.now)) (c.in_ok-cut_edge.ensures [] x.dict.edge n [] after x.few x.dict.is_edge x.dict.lies),
    )

pub cut_map_under-returns-in_default : goal.cut_map_under-returns-in_default
cut_map_under-returns-in_default t c = λ d hidden outs after is here l.
    absurd (no_map_there (cores (schema_view c.args.plan.now.0)) d (type_view c.args.ty.now) (c.args.levels + 1)
    c.args.cell.now.left outs after l (pairs_of (map pair_of c.args.pairs.now)) hidden is here
    (ap (option_map _) (sym c.in_default.is) ∙ c.mapped_under.ensures))

pub cut_map_under-returns-in_err-cut_root_edge : goal.cut_map_under-returns-in_err-cut_root_edge
cut_map_under-returns-in_err-cut_root_edge t c = λ d hidden outs after is here l.
    let n = c.in-Some.field-0-0.now in
    let x = under_at (cores (schema_view c.args.plan.now.0)) (type_view c.args.ty.now) c.args.levels c.args.cell.now outs after d l n
    (type_view c.in-Some.inner.now) (pairs_of (map pair_of c.args.pairs.now)) hidden is
    (ap (option_map _) (sym c.in-Some.is) ∙ c.mapped_under.ensures) in
    stopped _ c.from_residual.result c.in_err-cut_root_edge.field-0.0 c.from_residual.ensures.1
    (c.in_err-cut_root_edge.ensures d n outs after x.few x.is_shown x.lies)

pub cut_map_under-returns : goal.cut_map_under-returns
cut_map_under-returns t c = λ d hidden outs after is here l.
    let n = c.in-Some.field-0-0.now in
    let x = under_at (cores (schema_view c.args.plan.now.0)) (type_view c.args.ty.now) c.args.levels c.args.cell.now outs after d l n
    (type_view c.in-Some.inner.now) (pairs_of (map pair_of c.args.pairs.now)) hidden is
    (ap (option_map _) (sym c.in-Some.is) ∙ c.mapped_under.ensures) in
    (x.none, c.in_ok-cut_root_edge.ensures d n outs after x.few x.is_shown x.lies)

pub cut_record-returns-in_default : goal.cut_record-returns-in_default
cut_record-returns-in_default t c = λ d outs after is l.
    let parts = record_parts c.args.parts.now in
    absurd (no_declared (cores (schema_view c.args.plan.now.0)) d (type_view c.args.ty.now) (c.args.levels + 1)
    c.args.cell.now.left outs after l parts.0 (names_in parts.1) (vals_in parts.1) is
    (ap (option_map _) (sym c.in_default.is) ∙ c.named_as.ensures))

pub cut_record-returns : goal.cut_record-returns
cut_record-returns t c = λ d outs after is l.
    let x = at_declared (cores (schema_view c.args.plan.now.0)) d (type_view c.args.ty.now) (c.args.levels + 1)
    c.args.cell.now.left outs after l c.in-Some.name.now (closed_args c.in-Some.args.now)
    (ap (option_map _) (sym c.in-Some.is) ∙ c.named_as.ensures) in
    c.cut_declared.ensures d outs after is x.lies

-- ---- items

pub cut_items-returns-in_err-cut_value : goal.cut_items-returns-in_err-cut_value
cut_items-returns-in_err-cut_value t c = λ after all x.
    let at = c.loop-item in
    let y = item_at (cores (schema_view c.args.plan.now.0)) (rests_of c.args.wanted.now) c.args.levels (type_view c.args.inner.now) after all at.place
    at.item-index c.args.items.now at.cell (at.invariant after all x) c.item-item.result c.loop-item-test.true c.item-item.is in
    stopped _ c.from_residual-in_err-cut_value.result c.in_err-cut_value.field-0.0 c.from_residual-in_err-cut_value.ensures.1
    (c.in_err-cut_value.ensures y.first y.outs y.middle y.is_first y.lies)

pub cut_items-loop-item-preserved : goal.cut_items-loop-item-preserved
cut_items-loop-item-preserved t c = λ after all x.
    let at = c.loop-item in
    let y = item_at (cores (schema_view c.args.plan.now.0)) (rests_of c.args.wanted.now) c.args.levels (type_view c.args.inner.now) after all at.place
    at.item-index c.args.items.now at.cell (at.invariant after all x) c.item-item.result c.loop-item-test.true c.item-item.is in
    let m = c.in_ok-cut_value.ensures y.first y.outs y.middle y.is_first y.lies in
    let here = ap (λ (z : Rests). cut_for z y.first) c.in_ok-here.ensures in
    let few = y.below in
    let next = c.saturating_add-place.ensures in
    y.then c.saturating_add-place.result c.cut_value.new.cell (omega (arith, few, next))
    (moves_as _ _ y.middle.refs at.cell c.cut_value.new.cell here m.1)

pub cut_items-returns : goal.cut_items-returns
cut_items-returns t c = λ after all x.
    let at = c.loop-item in
    let m = items_done (cores (schema_view c.args.plan.now.0)) (rests_of c.args.wanted.now) c.args.levels (type_view c.args.inner.now) after all at.place
    at.item-index c.args.items.now at.cell (at.invariant after all x) c.loop-item-test.false in
    (m.left, m.made)
