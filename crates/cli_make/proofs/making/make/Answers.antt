use Rattle.cli_stages.specs.StageLaws.{passed, stopped}
use Rattle.cli_make.proofs.Same.{schema-same}
use Rattle.cli_make.proofs.making.make.Goals as goal

pub returns-in_err-plan : goal.returns-in_err-plan
returns-in_err-plan c =
    schema-same _ _ _ c.message_schema.ensures.text (stopped c.in_err-plan.ensures c.from_residual.ensures.1)

pub returns : goal.returns
returns c = schema-same _ _ _ c.message_schema.ensures.text (passed c.in_ok-plan.ensures c.make_type.ensures)
