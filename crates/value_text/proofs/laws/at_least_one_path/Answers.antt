use Rattle.value_text.proofs.PathStands.{some_answer}
use Rattle.value_text.proofs.laws.at_least_one_path.Goals as goal

pub returns : goal.returns
returns c = some_answer
