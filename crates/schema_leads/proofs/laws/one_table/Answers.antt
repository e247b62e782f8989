use Rattle.schema_leads.proofs.Rounds.{one_table}
use Rattle.schema_leads.proofs.laws.one_table.Goals as goal

pub returns : goal.returns
returns c = one_table c.no_long_chain.ensures
