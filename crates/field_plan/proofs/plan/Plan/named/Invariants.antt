use Rattle.tlb_syntax.specs.View.{schema}
use Rattle.closed_type.specs.View.{closed_args}
use Rattle.schema_leads.specs.Tags.{cores}
use Rattle.type_index.specs.Index.{places_of}
use Rattle.field_plan.specs.Choosing.{IsNamed}
use Rattle.field_plan.proofs.Choice.{NoneBefore}
use Rattle.field_plan.proofs.plan.Plan.named.Given as goal

abbrev pub invariant-loop-c : goal.invariant-loop-c
invariant-loop-c l =
    NoneBefore (cores (schema l.self.0)) (IsNamed l.type_name (closed_args l.args) l.shown)
    (places_of (schema l.self.0) l.type_name) l.c-index
