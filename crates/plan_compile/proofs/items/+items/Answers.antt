use Rattle.std.proofs.Common.{◌≡◌, ap, map, subst, ◌∙◌, IfOk, arith}
use Rattle.tlb_syntax.specs.View.{constructor, item as item_view}
use Rattle.core_form.specs.Core.{Ty}
use Rattle.core_form.specs.Core as core
use Rattle.schema_core.specs.CoreOf.{item_of}
use Rattle.flat_form.specs.Stands.{slot_of, type_at}
use Rattle.flat_form.specs.Parts.{condition_of, items_so_far, with_item}
use Rattle.flat_form.specs.GrowthLaws.{adds_on, on_ok, record_stays}
use Rattle.flat_form.specs.PartLaws.{ops_kept}
use Rattle.plan_compile.specs.Views.{names_by, with_some}
use Rattle.plan_compile.proofs.Answered.{ok_with}
use Rattle.plan_compile.proofs.Records.{item_turn, items_done, slots_turn, slots_done, names_turn, names_done}
use Rattle.plan_compile.proofs.Records.{body_of_sum, slots_of_sum, slots_under_sum, under_ref_of_sum}
use Rattle.plan_compile.proofs.items.+items.Goals as goal

pub compile_field-push_field-requires-clause-ops : goal.compile_field-push_field-requires-clause-ops
compile_field-push_field-requires-clause-ops t c = ops_kept c.args.flat.now c.compile_body.new.flat c.args.ops.now c.in_ok-ty.ensures.adds c.requires.ops

pub compile_field-returns-clause-adds : goal.compile_field-returns-clause-adds
compile_field-returns-clause-adds t c =
    on_ok c.push_field.result (adds_on c.args.flat.now c.compile_body.new.flat c.push_field.new.self c.in_ok-ty.ensures.adds) c.push_field.ensures.adds

pub compile_field-returns-clause-stands : goal.compile_field-returns-clause-stands
compile_field-returns-clause-stands t c =
    on_ok c.push_field.result (λ e. e
    ∙ ap (λ z. with_item z (core.field c.args.shown (slot_of c.args.slot) (condition_of c.args.condition) (type_at c.compile_body.new.flat c.in_ok-ty.ty))) (record_stays c.args.flat.now c.compile_body.new.flat c.args.ops.now c.requires.flat c.in_ok-ty.ensures.adds c.requires.ops.sound)
    ∙ ap (λ z. with_item (items_so_far c.args.flat.now c.args.ops.now) (core.field c.args.shown (slot_of c.args.slot) (condition_of c.args.condition) z)) c.in_ok-ty.ensures.stands) c.push_field.ensures.stands

pub compile_body-returns-in-Sum-clause-stands : goal.compile_body-returns-in-Sum-clause-stands
compile_body-returns-in-Sum-clause-stands t c =
    let P : Ty → Type 0 = λ z. IfOk c.compile_type.result (λ n. type_at c.compile_type.new.flat n ≡ z) in
    subst P (body_of_sum (map constructor c.args.types.now) (names_by c.args.names.now) c.args.next.now c.args.e.now c.in-Sum.field-0 c.in-Sum.field-1 c.in-Sum.field-2 c.in-Sum.is) c.compile_type.ensures.stands

pub compile_body-returns-in-Sum-clause-next : goal.compile_body-returns-in-Sum-clause-next
compile_body-returns-in-Sum-clause-next t c =
    ok_with c.compile_type.result (omega (arith, slots_of_sum c.args.e.now c.in-Sum.field-0 c.in-Sum.field-1 c.in-Sum.field-2 c.in-Sum.is))

pub compile_under_ref-returns-in-Sum-clause-stands : goal.compile_under_ref-returns-in-Sum-clause-stands
compile_under_ref-returns-in-Sum-clause-stands t c =
    let P : Ty → Type 0 = λ z. IfOk c.compile_type.result (λ n. type_at c.compile_type.new.flat n ≡ z) in
    subst P (under_ref_of_sum (map constructor c.args.types.now) (names_by c.args.names.now) c.args.next.now c.args.e.now c.in-Sum.field-0 c.in-Sum.field-1 c.in-Sum.field-2 c.in-Sum.is) c.compile_type.ensures.stands

pub compile_under_ref-returns-in-Sum-clause-next : goal.compile_under_ref-returns-in-Sum-clause-next
compile_under_ref-returns-in-Sum-clause-next t c =
    ok_with c.compile_type.result (omega (arith, slots_under_sum c.args.e.now c.in-Sum.field-0 c.in-Sum.field-1 c.in-Sum.field-2 c.in-Sum.is))

pub compile_items-loop-item-preserved : goal.compile_items-loop-item-preserved
compile_items-loop-item-preserved t c = record {
  adds = adds_on c.args.flat.now c.loop-item.flat c.compile_item.new.flat c.loop-item.invariant.adds c.in_ok-compile_item.ensures.adds;
  ops = c.in_ok-compile_item.ensures.ops;
  same = item_turn (map constructor c.args.types.now) c.args.items.now c.loop-item.item-index c.item-item.result (names_by c.loop-item.names) (names_by c.declare.new.names) c.loop-item.next c.compile_item.new.next
      c.loop-item.place c.in_ok-place.place c.loop-item.unnamed c.in_ok-unnamed.unnamed (items_so_far c.loop-item.flat c.loop-item.ops) (items_so_far c.compile_item.new.flat c.compile_item.new.ops) _
      c.loop-item-test.true c.item-item.is c.in_ok-declare.ensures c.in_ok-compile_item.ensures.next c.in_ok-place.ensures c.in_ok-unnamed.ensures
      (c.in_ok-compile_item.ensures.stands ∙ ap (λ z. with_some (items_so_far c.loop-item.flat c.loop-item.ops) (item_of (map constructor c.args.types.now) (names_by z) c.loop-item.next c.loop-item.place c.loop-item.unnamed (item_view c.item-item.result))) c.as_slice.ensures)
      c.loop-item.invariant.same;
  next = slots_turn c.args.items.now c.loop-item.item-index c.item-item.result c.loop-item.next c.compile_item.new.next _ c.loop-item-test.true c.item-item.is c.in_ok-compile_item.ensures.next c.loop-item.invariant.next;
  names = names_turn c.args.items.now c.loop-item.item-index c.item-item.result (names_by c.loop-item.names) (names_by c.declare.new.names) _ c.loop-item.next c.compile_item.new.next
      c.loop-item-test.true c.item-item.is c.in_ok-declare.ensures c.in_ok-compile_item.ensures.next c.loop-item.invariant.names;
}

pub compile_items-returns-clause-stands : goal.compile_items-returns-clause-stands
compile_items-returns-clause-stands t c =
    items_done (map constructor c.args.types.now) c.args.items.now c.loop-item.item-index (names_by c.loop-item.names) c.loop-item.next c.loop-item.place c.loop-item.unnamed (items_so_far c.loop-item.flat c.loop-item.ops) _ c.loop-item-test.false c.loop-item.invariant.same

pub compile_items-returns-clause-next : goal.compile_items-returns-clause-next
compile_items-returns-clause-next t c = slots_done c.args.items.now c.loop-item.item-index c.loop-item.next _ c.loop-item-test.false c.loop-item.invariant.next

pub compile_items-returns-clause-names : goal.compile_items-returns-clause-names
compile_items-returns-clause-names t c = names_done c.args.items.now c.loop-item.item-index c.loop-item.next (names_by c.loop-item.names) _ c.loop-item-test.false c.loop-item.invariant.names
