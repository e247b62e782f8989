use Rattle.accepted_schema.proofs.Answers.{one_constructor}
use Rattle.accepted_schema.proofs.laws.one_constructor.Goals as goal

pub returns : goal.returns
returns c = one_constructor c.separated_enter_one.ensures
