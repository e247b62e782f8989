use Rattle.cli_stages.specs.StageLaws.{given, passed, stopped}
use Rattle.cli_commands.proofs.view.view_cell.Goals as goal

pub returns-in_err-viewed : goal.returns-in_err-viewed
returns-in_err-viewed c = stopped c.in_err-viewed.ensures c.from_residual.ensures.1

pub returns : goal.returns
returns c = passed c.in_ok-viewed.ensures (given c.in_ok-text.ensures)
