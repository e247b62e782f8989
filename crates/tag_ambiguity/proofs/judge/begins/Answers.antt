use Rattle.std.proofs.Common.{◌∙◌, ap}
use Rattle.schema_leads.specs.Leads.{begins}
use Rattle.tag_ambiguity.proofs.Marks.{tested_begin}
use Rattle.tag_ambiguity.proofs.judge.begins.Goals as goal

pub returns : goal.returns
returns c =
    tested_begin c.begins_with.result c.slice-2.result c.slice.result c.begins_with.ensures
    ∙ ap (λ z. begins z c.slice.result) c.slice-2.ensures ∙ ap (begins c.args.lead.now) c.slice.ensures
