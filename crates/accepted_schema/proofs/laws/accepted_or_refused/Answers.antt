use Rattle.accepted_schema.proofs.Answers.{accepted_or_refused}
use Rattle.accepted_schema.proofs.laws.accepted_or_refused.Goals as goal

pub returns : goal.returns
returns c = accepted_or_refused c.separation_is_decided.ensures
