use Rattle.std.proofs.Common.{List, length, subst, sym}
use Rattle.tlb_syntax.specs.declared.tree.Schema.{Schema}
use Rattle.tlb_syntax.specs.View.{schema}
use Rattle.flat_form.specs.declared.lists.ConstructorPlan.{ConstructorPlan}
use Rattle.flat_form.specs.declared.lists.Flat.{Flat}
use Rattle.field_plan.specs.Planned.{IsPlan}
use Rattle.field_plan.proofs.Naming.{name_at, name_there}
use Rattle.field_plan.proofs.plan.Plan.name.Goals as goal

pub unreachable-requires : goal.unreachable-requires
unreachable-requires c =
    let P : Schema × Flat × List ConstructorPlan → Type 0 = λ z. IsPlan (schema z.0) z.1 z.2 c.self.inside.index c.self.inside.names in
    let is = subst P c.self.view_is c.self.invariant in
    name_there (schema c.args.self.now.0) c.self.inside.names (length c.args.self.now.2) c.args.c is.names is.planned.count c.requires c.in-None.ensures.value

pub returns : goal.returns
returns c =
    let P : Schema × Flat × List ConstructorPlan → Type 0 = λ z. IsPlan (schema z.0) z.1 z.2 c.self.inside.index c.self.inside.names in
    let is = subst P c.self.view_is c.self.invariant in
    name_at (schema c.args.self.now.0) c.self.inside.names c.args.c _ is.names (sym c.in-Some.ensures.value)
