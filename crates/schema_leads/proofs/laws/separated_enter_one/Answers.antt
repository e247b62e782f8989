use Rattle.schema_leads.proofs.Separated.{separated_enter_one}
use Rattle.schema_leads.proofs.laws.separated_enter_one.Goals as goal

pub returns : goal.returns
returns c = separated_enter_one
