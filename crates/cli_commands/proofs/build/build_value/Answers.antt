use Rattle.cli_stages.specs.StageLaws.{given, passed, stopped}
use Rattle.cli_commands.proofs.build.build_value.Goals as goal

pub returns-in_err-cell : goal.returns-in_err-cell
returns-in_err-cell c = stopped c.in_err-cell.ensures.answer c.from_residual.ensures.1

pub returns : goal.returns
returns c = passed c.in_ok-cell.ensures.answer (given c.in_ok-text.ensures)
