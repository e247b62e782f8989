use Rattle.schema_leads.proofs.Exposed.{first_is_exposed}
use Rattle.schema_leads.proofs.Chains.{no_long_chain}
use Rattle.schema_leads.proofs.laws.no_long_chain.Goals as goal

pub returns : goal.returns
returns c = no_long_chain first_is_exposed c.reached_within_type_count.ensures
