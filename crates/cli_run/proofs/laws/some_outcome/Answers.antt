use Rattle.cli_run.proofs.Outcome.{outcome-answered}
use Rattle.cli_run.proofs.laws.some_outcome.Goals as goal

pub returns : goal.returns
returns c = outcome-answered c.each_command_answers_once.ensures
