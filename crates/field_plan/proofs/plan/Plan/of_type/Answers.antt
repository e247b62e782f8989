use Rattle.std.proofs.Common.{◌∙◌, List, [], subst, sym}
use Rattle.tlb_syntax.specs.declared.tree.Schema.{Schema}
use Rattle.tlb_syntax.specs.View.{schema}
use Rattle.flat_form.specs.declared.lists.ConstructorPlan.{ConstructorPlan}
use Rattle.flat_form.specs.declared.lists.Flat.{Flat}
use Rattle.field_plan.specs.Planned.{IsPlan}
use Rattle.field_plan.proofs.Declared.{core_count}
use Rattle.field_plan.proofs.plan.Plan.of_type.Goals as goal

pub returns-in-Some-clause-count : goal.returns-in-Some-clause-count
returns-in-Some-clause-count c =
    let P : Schema × Flat × List ConstructorPlan → Type 0 = λ z. IsPlan (schema z.0) z.1 z.2 c.self.inside.index c.self.inside.names in
    let is = subst P c.self.view_is c.self.invariant in
    is.planned.count ∙ sym (core_count (schema c.args.self.now.0) [] (schema c.args.self.now.0))

pub returns-in-None-clause-count : goal.returns-in-None-clause-count
returns-in-None-clause-count c =
    let P : Schema × Flat × List ConstructorPlan → Type 0 = λ z. IsPlan (schema z.0) z.1 z.2 c.self.inside.index c.self.inside.names in
    let is = subst P c.self.view_is c.self.invariant in
    is.planned.count ∙ sym (core_count (schema c.args.self.now.0) [] (schema c.args.self.now.0))
