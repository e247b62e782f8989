use Rattle.cli_stages.specs.StageLaws.{given, passed, stopped}
use Rattle.cli_commands.proofs.read.shown.Goals as goal

pub returns-in_err-value : goal.returns-in_err-value
returns-in_err-value c = stopped c.in_err-value.ensures c.from_residual.ensures.1

pub returns : goal.returns
returns c = passed c.in_ok-value.ensures (given c.in_ok-text.ensures)
