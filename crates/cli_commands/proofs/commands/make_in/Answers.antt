use Rattle.cli_commands.proofs.SameBuilds.{makes-same}
use Rattle.cli_commands.proofs.commands.make_in.Goals as goal

pub returns : goal.returns
returns c = makes-same _ _ _ _ _ c.unwrap_or-number.ensures c.count.ensures c.word_at.ensures c.make.ensures
