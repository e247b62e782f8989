use Rattle.std.proofs.Common.{[], ap, map, ◌∙◌, ◌+◌}
use Rattle.tlb_syntax.specs.View.{constructor, exprs as exprs_view, items as items_view}
use Rattle.schema_core.specs.CoreOf.{inputs_of, items_of, names_at_result}
use Rattle.schema_core.specs.Slots.{slots_in}
use Rattle.plan_compile.specs.Views.{names_by}
use Rattle.plan_compile.proofs.Plans.{names_then, outputs_then, plan_made}
use Rattle.plan_compile.proofs.compile.compile_constructor.Goals as goal

pub returns-clause-stands : goal.returns-clause-stands
returns-clause-stands c =
    let T = map constructor c.args.types.now in
    let names = names_then (constructor c.args.constructor.now) c.new-names.result c.compile_items.new.names c.as_slice.result.now c.new-names.ensures (ap items_view c.as_slice.ensures) c.in_ok-ops.ensures.names in
    plan_made c.compile_items.new.flat c.add_operations.new.self c.outputs.new.flat T (constructor c.args.constructor.now) c.in_ok-ops.ops _
    c.in_ok-ops.ensures.adds.flat c.in_ok-first.ensures.adds c.in_ok-outputs.ensures.adds c.in_ok-ops.ensures.ops
    (c.in_ok-ops.ensures.stands
    ∙ ap (λ z. items_of T (names_by z) 0 1 0 (items_view c.as_slice.result.now)) c.new-names.ensures
    ∙ ap (λ z. items_of T [] 0 1 0 (items_view z)) c.as_slice.ensures)
    (c.in_ok-count.ensures ∙ c.len.ensures) c.in_ok-first.ensures.there c.in_ok-first.ensures.stands
    (c.in_ok-ops.ensures.next ∙ ap (λ z. 0 + slots_in (items_view z)) c.as_slice.ensures)
    (c.in_ok-inputs.ensures
    ∙ ap (λ z. inputs_of (names_by z) (exprs_view c.as_slice-3.result.now)) c.as_slice-2.ensures
    ∙ ap (λ z. inputs_of z (exprs_view c.as_slice-3.result.now)) names
    ∙ ap (λ z. inputs_of (names_at_result (constructor c.args.constructor.now)) (exprs_view z)) c.as_slice-3.ensures)
    (outputs_then c.outputs.new.flat c.in_ok-outputs.outputs (constructor c.args.constructor.now) c.compile_items.new.names c.as_slice-4.result.now c.as_slice-5.result.now c.args.constructor.now.params
    c.as_slice-4.ensures names c.as_slice-5.ensures c.in_ok-outputs.ensures.are)
