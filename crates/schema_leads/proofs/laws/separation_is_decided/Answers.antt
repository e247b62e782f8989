use Rattle.schema_leads.proofs.Separated.{separation_is_decided}
use Rattle.schema_leads.proofs.laws.separation_is_decided.Goals as goal

pub returns : goal.returns
returns c = separation_is_decided
