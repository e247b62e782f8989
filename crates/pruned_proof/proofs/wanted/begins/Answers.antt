use Rattle.std.proofs.Common.{◌∙◌}
use Rattle.schema_leads.specs.Leads.{begins}
use Rattle.path_knowledge.specs.BeginningLaws.{tested_begin}
use Rattle.pruned_proof.proofs.wanted.begins.Goals as goal

pub returns : goal.returns
returns c =
    tested_begin c.begins_with.result c.again.result c.slice.result c.begins_with.ensures
    ∙ (λ i. begins (c.again.ensures i) (c.slice.ensures i))
