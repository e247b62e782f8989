use Rattle.cli_make.proofs.Same.{word-same}
use Rattle.cli_make.proofs.making.make_word.Goals as goal

pub returns : goal.returns
returns c = word-same _ _ _ _ _ _ c.in_ok-word.ensures c.make_value.ensures
