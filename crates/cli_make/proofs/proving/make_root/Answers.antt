use Rattle.std.proofs.Common.{refl}
use Rattle.cli_stages.specs.StageLaws.{passed, stopped}
use Rattle.cli_make.proofs.Same.{proof-same}
use Rattle.cli_make.proofs.proving.make_root.Goals as goal

pub returns-in_err-proof : goal.returns-in_err-proof
returns-in_err-proof c = stopped c.in_err-proof.ensures.answer c.from_residual.ensures.1

pub returns : goal.returns
returns c = passed c.in_ok-proof.ensures.answer (proof-same _ _ _ _ _ _ _ _ c.as_str.ensures.value refl c.make_proof.ensures)
