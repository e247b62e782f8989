use Rattle.cli_stages.specs.StageLaws.{given, passed, stopped}
use Rattle.cli_commands.proofs.check.check.Goals as goal

pub returns-in_err-accepted : goal.returns-in_err-accepted
returns-in_err-accepted c = stopped c.in_err-accepted.ensures c.from_residual.ensures.1

pub returns : goal.returns
returns c = passed c.in_ok-accepted.ensures (given c.in_ok-text.ensures)
