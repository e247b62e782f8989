use Rattle.std.proofs.Common.{ap}
use Rattle.tlb_syntax.specs.View.{schema as schema_view}
use Rattle.cli_stages.specs.StageLaws.{given_as, stopped_as}
use Rattle.cli_stages.proofs.schema.plan.Goals as goal

pub returns-in_err-accepted : goal.returns-in_err-accepted
returns-in_err-accepted c = stopped_as c.in_err-accepted.ensures c.from_residual.ensures.1

pub returns : goal.returns
returns c = given_as c.in_ok-accepted.ensures (ap schema_view c.in_ok-plan.ensures)
