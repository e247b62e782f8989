use Rattle.std.proofs.Common.{Option, ap, sym, subst, ◌∙◌, ℕ}
use Rattle.nat_solver.specs.View.{expr}
use Rattle.nat_solver.specs.declared.expr.NatExpr.{NatExpr}
use Rattle.core_form.specs.Core as core
use Rattle.flat_form.specs.Stands.{type_at, slot_of}
use Rattle.flat_form.specs.Parts.{condition_of, items_so_far, with_item, IsPlainCondition}
use Rattle.flat_form.specs.PartLaws.{field_ops, field_is, when_ops, when_is}
use Rattle.flat_form.proofs.lists.Flat.push_field.Goals as goal

pub returns-in_ok-push-in-None-clause-ops : goal.returns-in_ok-push-in-None-clause-ops
returns-in_ok-push-in-None-clause-ops c =
    field_ops c.args.self.now c.add_name.new.self c.args.ops.now c.push.new.self c.in_ok-name-in-None.name c.args.ty c.args.slot
    c.in_ok-name-in-None.ensures.adds c.requires.ops c.in_ok-push-in-None.ensures.ok c.in_ok-name-in-None.ensures.there c.requires.there

pub returns-in_ok-push-in-None-clause-stands : goal.returns-in_ok-push-in-None-clause-stands
returns-in_ok-push-in-None-clause-stands c =
    field_is c.args.self.now c.add_name.new.self c.args.ops.now c.push.new.self c.in_ok-name-in-None.name c.args.ty c.args.slot c.args.name
    c.requires.flat c.in_ok-name-in-None.ensures.adds c.requires.ops c.in_ok-push-in-None.ensures.ok c.in_ok-name-in-None.ensures.stands c.requires.there
    ∙ ap (λ z. with_item (items_so_far c.args.self.now c.args.ops.now) (core.field c.args.name (slot_of c.args.slot) (condition_of z) (type_at c.args.self.now c.args.ty))) (sym c.in-None.is)

pub returns-in_ok-push-in-Some-2-clause-ops : goal.returns-in_ok-push-in-Some-2-clause-ops
returns-in_ok-push-in-Some-2-clause-ops c =
    let P : Option (NatExpr × ℕ) → Type 0 = IsPlainCondition in
    let plain = subst P c.in-Some.is c.requires.plain in
    when_ops c.args.self.now c.add_expression.new.self c.add_name-in-Some.new.self c.args.ops.now c.push-in-Some.new.self c.push-in-Some-2.new.self c.in_ok-number-in-Some.number c.in-Some.bit c.in_ok-name-in-Some.name c.args.ty c.args.slot (expr c.in-Some.number)
    c.in_ok-number-in-Some.ensures.adds c.in_ok-name-in-Some.ensures.adds c.requires.ops c.in_ok-push-in-Some.ensures.ok c.in_ok-push-in-Some-2.ensures.ok c.in_ok-number-in-Some.ensures.there c.in_ok-number-in-Some.ensures.stands plain.0 plain.1
    c.in_ok-name-in-Some.ensures.there c.requires.there

pub returns-in_ok-push-in-Some-2-clause-stands : goal.returns-in_ok-push-in-Some-2-clause-stands
returns-in_ok-push-in-Some-2-clause-stands c =
    when_is c.args.self.now c.add_expression.new.self c.add_name-in-Some.new.self c.args.ops.now c.push-in-Some.new.self c.push-in-Some-2.new.self c.in_ok-number-in-Some.number c.in-Some.bit c.in_ok-name-in-Some.name c.args.ty c.args.slot (expr c.in-Some.number) c.args.name
    c.requires.flat c.in_ok-number-in-Some.ensures.adds c.in_ok-name-in-Some.ensures.adds c.requires.ops c.in_ok-push-in-Some.ensures.ok c.in_ok-push-in-Some-2.ensures.ok c.in_ok-number-in-Some.ensures.there c.in_ok-number-in-Some.ensures.stands
    c.in_ok-name-in-Some.ensures.stands c.requires.there
    ∙ ap (λ z. with_item (items_so_far c.args.self.now c.args.ops.now) (core.field c.args.name (slot_of c.args.slot) (condition_of z) (type_at c.args.self.now c.args.ty))) (sym c.in-Some.is)
