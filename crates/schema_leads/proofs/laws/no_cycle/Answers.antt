use Rattle.schema_leads.proofs.Exposed.{first_is_exposed}
use Rattle.schema_leads.proofs.Chains.{no_cycle}
use Rattle.schema_leads.proofs.laws.no_cycle.Goals as goal

pub returns : goal.returns
returns c = no_cycle first_is_exposed c.reached_within_type_count.ensures
