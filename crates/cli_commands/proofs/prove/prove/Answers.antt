use Rattle.cli_stages.specs.StageLaws.{passed, stopped}
use Rattle.cli_commands.proofs.prove.prove.Goals as goal

pub returns-in_err-plan : goal.returns-in_err-plan
returns-in_err-plan c = stopped c.in_err-plan.ensures c.from_residual.ensures.1

pub returns : goal.returns
returns c = passed c.in_ok-plan.ensures c.prove_type.ensures
