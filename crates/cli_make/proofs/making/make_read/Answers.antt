use Rattle.cli_stages.specs.StageLaws.{passed, stopped}
use Rattle.cli_make.proofs.Same.{text-same}
use Rattle.cli_make.proofs.making.make_read.Goals as goal

pub returns-in_err-value : goal.returns-in_err-value
returns-in_err-value c = text-same _ _ _ c.requires (stopped c.in_err-value.ensures c.from_residual.ensures.1)

pub returns : goal.returns
returns c = text-same _ _ _ c.requires (passed c.in_ok-value.ensures c.make_word.ensures)
