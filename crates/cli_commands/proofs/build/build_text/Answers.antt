use Rattle.cli_stages.specs.StageLaws.{passed, stopped}
use Rattle.cli_commands.proofs.build.build_text.Goals as goal

pub returns-in_err-value : goal.returns-in_err-value
returns-in_err-value c = stopped c.in_err-value.ensures c.from_residual.ensures.1

pub returns : goal.returns
returns c = passed c.in_ok-value.ensures c.build_value.ensures
