use Rattle.std.proofs.Common.{◌∙◌, ap}
use Rattle.schema_leads.specs.Leads.{begins}
use Rattle.field_plan.proofs.Fitting.{tested_begin}
use Rattle.field_plan.proofs.choosing.begins.Goals as goal

pub returns : goal.returns
returns c =
    tested_begin c.begins_with.result c.slice.result c.args.bits.now c.begins_with.ensures
    ∙ ap (λ z. begins z c.args.bits.now) c.slice.ensures
