use Rattle.cli_stages.specs.StageLaws.{passed, stopped}
use Rattle.cli_make.proofs.making.make_value.Goals as goal

pub returns-in_err-cell : goal.returns-in_err-cell
returns-in_err-cell c = stopped c.in_err-cell.ensures.answer c.from_residual.ensures.1

pub returns : goal.returns
returns c = passed c.in_ok-cell.ensures.answer c.make_tree.ensures
