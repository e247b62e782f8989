use Rattle.cli_stages.specs.StageLaws.{passed, stopped}
use Rattle.cli_commands.proofs.prove.prove_bag.Goals as goal

pub returns-in_err-root : goal.returns-in_err-root
returns-in_err-root c = stopped c.in_err-root.ensures c.from_residual.ensures.1

pub returns : goal.returns
returns c = passed c.in_ok-root.ensures c.prove_cell.ensures
