use Rattle.cli_stages.specs.StageLaws.{passed, stopped}
use Rattle.cli_make.proofs.Same.{shown-same}
use Rattle.cli_make.proofs.proving.make_shown.Goals as goal

pub returns-in_err-viewed : goal.returns-in_err-viewed
returns-in_err-viewed c = shown-same _ _ _ _ _ _ c.hash.ensures (stopped c.in_err-viewed.ensures c.from_residual.ensures.1)

pub returns : goal.returns
returns c = shown-same _ _ _ _ _ _ c.hash.ensures (passed c.in_ok-viewed.ensures (record { answer = c.in_ok-text.ensures }))
