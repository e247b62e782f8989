use Rattle.schema_leads.proofs.Rounds.{rounds_end}
use Rattle.schema_leads.proofs.laws.rounds_end.Goals as goal

pub returns : goal.returns
returns c = rounds_end c.no_long_chain.ensures
