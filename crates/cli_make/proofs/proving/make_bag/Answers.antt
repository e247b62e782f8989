use Rattle.std.proofs.Common.{◌∙◌}
use Rattle.cli_stages.specs.StageLaws.{passed, stopped}
use Rattle.cli_make.proofs.Same.{bag-same}
use Rattle.cli_make.proofs.proving.make_bag.Goals as goal

pub returns-in_err-root : goal.returns-in_err-root
returns-in_err-root c =
    bag-same _ _ _ (c.deref.ensures.value ∙ c.requires.1) (stopped c.in_err-root.ensures c.from_residual.ensures.1)

pub returns : goal.returns
returns c = bag-same _ _ _ (c.deref.ensures.value ∙ c.requires.1) (passed c.in_ok-root.ensures c.make_root.ensures)
