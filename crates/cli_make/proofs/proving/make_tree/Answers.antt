use Rattle.cli_make.proofs.Same.{tree-same}
use Rattle.cli_make.proofs.proving.make_tree.Goals as goal

pub returns : goal.returns
returns c = tree-same _ _ _ _ _ _ c.in_ok-message.ensures.cell c.make_bag.ensures
