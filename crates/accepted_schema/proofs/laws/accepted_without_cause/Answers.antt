use Rattle.accepted_schema.proofs.Answers.{accepted_without_cause}
use Rattle.accepted_schema.proofs.laws.accepted_without_cause.Goals as goal

pub returns : goal.returns
returns c = accepted_without_cause c.separation_is_decided.ensures
