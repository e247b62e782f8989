use Rattle.std.proofs.Common.{List, Option, Some, ap, map, ℕ, ◌∙◌, ◌≡◌, slice_get}
use Rattle.std.proofs.lemmas.Result.{IfOk-weaker}
use Rattle.core_form.specs.Core.{Declaration}
use Rattle.core_form.specs.Scope.{values_in}
use Rattle.flat_form.specs.Stands.{expr_at}
use Rattle.plan_closing.specs.Counted.{scope_of}
use Rattle.tlb_syntax.specs.View.{schema as schema_view}
use Rattle.typed_builder.proofs.Planned.{outputs_are, outputs_plain}
use Rattle.typed_builder.specs.View.{core_of}
use Rattle.typed_builder.proofs.records.results.Goals as goal

pub values-requires : goal.values-requires
values-requires c =
    outputs_plain (schema_view c.args.plan.now.0) c.flat-flat.result.now c.args.plan.now.2 c.args.c
    c.flat-flat.ensures.planned
    c.requires c.outputs.result.now c.outputs.ensures

pub returns : goal.returns
returns c = λ types.
    let f = c.flat-flat.result.now in
    let scope = scope_of c.args.numbers.now types in
    IfOk-weaker c.values.result
    (λ (ns : Option (List ℕ)). ns ≡ values_in (map (expr_at f) c.outputs.result.now) scope)
    (λ (ns : Option (List ℕ)). (d : Declaration) → slice_get (core_of c.args.plan.now.0) c.args.c ≡ Some d
    → ns ≡ values_in d.core.outputs scope)
    (λ ns is d there. is ∙ ap (λ z. values_in z scope)
    (outputs_are (schema_view c.args.plan.now.0) f c.args.plan.now.2 c.args.c c.flat-flat.ensures.planned
    c.requires d there c.outputs.result.now c.outputs.ensures))
    (c.values.ensures types)
