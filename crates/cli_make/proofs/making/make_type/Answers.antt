use Rattle.cli_stages.specs.StageLaws.{passed, stopped}
use Rattle.cli_make.proofs.making.make_type.Goals as goal

pub returns-in_err-ty : goal.returns-in_err-ty
returns-in_err-ty c = stopped c.in_err-ty.ensures c.from_residual.ensures.1

pub returns : goal.returns
returns c = passed c.in_ok-ty.ensures c.make_text.ensures
