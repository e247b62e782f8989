use Rattle.cli_stages.specs.StageLaws.{passed, stopped}
use Rattle.cli_commands.proofs.view.view_bag.Goals as goal

pub returns-in_err-cell : goal.returns-in_err-cell
returns-in_err-cell c = stopped c.in_err-cell.ensures c.from_residual.ensures.1

pub returns : goal.returns
returns c = passed c.in_ok-cell.ensures c.view_cell.ensures
