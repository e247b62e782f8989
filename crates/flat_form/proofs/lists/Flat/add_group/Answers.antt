use Rattle.std.proofs.Common.{◌≡◌, subst, sym, ap, IfOk, None, ◌∙◌, List, arith}
use Rattle.core_form.specs.Core.{Items}
use Rattle.core_form.specs.Core as core
use Rattle.flat_form.specs.declared.lists.PlanOp.{PlanOp}
use Rattle.flat_form.specs.Stands.{type_at, items_in, range}
use Rattle.flat_form.specs.Sound.{ConditionsGovern, OpsAreSound}
use Rattle.flat_form.specs.GrowthLaws.{record_stays, record_sound}
use Rattle.flat_form.proofs.lists.Flat.add_group.Goals as goal

pub add_type-requires-clause-sound : goal.add_type-requires-clause-sound
add_type-requires-clause-sound c =
    let count : c.in_ok-count.count ≡ _ = c.in_ok-count.ensures ∙ c.len.ensures in
    let is = ap (range c.add_operations.new.self.ops c.in_ok-first.first) count ∙ c.in_ok-first.ensures.stands in
    let P : List PlanOp → Type 0 = OpsAreSound c.add_operations.new.self _ in
    let Q : List PlanOp → Type 0 = ConditionsGovern in
    let sound =
    record_sound c.args.self.now c.add_operations.new.self c.args.ops c.in_ok-first.ensures.adds
    c.requires.ops.sound in
    (omega (arith, c.in_ok-first.ensures.there), subst P (sym is) sound, subst Q (sym is) c.requires.ops.conditions)

pub returns-clause-stands : goal.returns-clause-stands
returns-clause-stands c =
    let count : c.in_ok-count.count ≡ _ = c.in_ok-count.ensures ∙ c.len.ensures in
    let is = ap (range c.add_operations.new.self.ops c.in_ok-first.first) count ∙ c.in_ok-first.ensures.stands in
    let same =
    ap (items_in c.add_operations.new.self (type_at c.add_operations.new.self) None) is
    ∙ record_stays c.args.self.now c.add_operations.new.self c.args.ops c.requires.flat
    c.in_ok-first.ensures.adds c.requires.ops.sound in
    let P : Items → Type 0 = λ i. IfOk c.add_type.result (λ t. type_at c.add_type.new.self t ≡ core.group i) in
    subst P same c.add_type.ensures.stands
