use Rattle.std.proofs.Common.{◌∙◌, List, ap, subst, sym}
use Rattle.std.specs.Prelude.{slice_get}
use Rattle.tlb_syntax.specs.declared.tree.Schema.{Schema}
use Rattle.tlb_syntax.specs.View.{schema}
use Rattle.flat_form.specs.declared.lists.ConstructorPlan.{ConstructorPlan}
use Rattle.flat_form.specs.declared.lists.Flat.{Flat}
use Rattle.field_plan.specs.Planned.{IsPlan}
use Rattle.field_plan.proofs.plan.Plan.constructor.Goals as goal

pub returns-clause-stands : goal.returns-clause-stands
returns-clause-stands c = λ d there.
    let P : Schema × Flat × List ConstructorPlan → Type 0 = λ z. IsPlan (schema z.0) z.1 z.2 c.self.inside.index c.self.inside.names in
    let is = subst P c.self.view_is c.self.invariant in
    let view = ap (λ (z : Schema × Flat × List ConstructorPlan). z.2) c.self.view_is in
    is.planned.stand c.args.c d c.in-Some.plan.now there (ap (λ z. slice_get z c.args.c) (sym view) ∙ sym c.in-Some.ensures.value)
