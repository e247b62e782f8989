use Rattle.std.proofs.Common.{◌∙◌}
use Rattle.cli_stages.specs.StageLaws.{passed, stopped}
use Rattle.cli_make.proofs.Same.{bag-same}
use Rattle.cli_make.proofs.proving.make_again.Goals as goal

pub returns-in_err-again : goal.returns-in_err-again
returns-in_err-again c =
    bag-same _ _ _ (c.deref.ensures.value ∙ c.requires.proof.1) (stopped c.in_err-again.ensures c.from_residual.ensures.1)

pub returns : goal.returns
returns c = bag-same _ _ _ (c.deref.ensures.value ∙ c.requires.proof.1) (passed c.in_ok-again.ensures c.make_shown.ensures)
