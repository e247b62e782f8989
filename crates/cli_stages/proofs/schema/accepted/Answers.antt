use Rattle.cli_stages.specs.StageLaws.{passed, stopped}
use Rattle.cli_stages.proofs.schema.accepted.Goals as goal

pub returns-in_err-tree : goal.returns-in_err-tree
returns-in_err-tree c = stopped c.in_err-tree.ensures.given c.from_residual.ensures.1

pub returns-in_err-kinded : goal.returns-in_err-kinded
returns-in_err-kinded c =
    passed c.in_ok-tree.ensures.given (stopped c.in_err-kinded.ensures c.from_residual-in_err-kinded.ensures.1)

pub returns : goal.returns
returns c = passed c.in_ok-tree.ensures.given (passed c.in_ok-kinded.ensures c.tags.ensures)
