use Rattle.accepted_schema.proofs.Answers.{accepted_none}
use Rattle.accepted_schema.proofs.laws.accepted_has_no_refusal.Goals as goal

pub returns : goal.returns
returns c = accepted_none c.separation_is_decided.ensures
