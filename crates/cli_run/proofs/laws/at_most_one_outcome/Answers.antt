use Rattle.cli_run.proofs.Outcome.{outcome-once}
use Rattle.cli_run.proofs.laws.at_most_one_outcome.Goals as goal

pub returns : goal.returns
returns c = outcome-once c.each_command_answers_once.ensures
