use Rattle.schema_leads.proofs.Exposed.{first_is_exposed}
use Rattle.schema_leads.proofs.laws.first_is_exposed.Goals as goal

pub returns : goal.returns
returns c = first_is_exposed
