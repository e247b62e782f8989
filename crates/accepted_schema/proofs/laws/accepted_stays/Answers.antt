use Rattle.accepted_schema.proofs.Answers.{accepted_stays}
use Rattle.accepted_schema.proofs.laws.accepted_stays.Goals as goal

pub returns : goal.returns
returns c = accepted_stays c.kinded_stays.ensures c.kept_stays_within.ensures c.passed_over.ensures
