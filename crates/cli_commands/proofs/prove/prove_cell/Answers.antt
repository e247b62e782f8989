use Rattle.cli_stages.specs.StageLaws.{given, passed, stopped}
use Rattle.cli_commands.proofs.prove.prove_cell.Goals as goal

pub returns-in_err-proof : goal.returns-in_err-proof
returns-in_err-proof c = stopped c.in_err-proof.ensures.answer c.from_residual.ensures.1

pub returns : goal.returns
returns c = passed c.in_ok-proof.ensures.answer (given c.in_ok-text.ensures)
