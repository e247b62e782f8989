use Rattle.cli_commands.proofs.SameBuilds.{tidies-same}
use Rattle.cli_commands.proofs.commands.tidy_in.Goals as goal

pub returns : goal.returns
returns c = tidies-same _ _ _ _ _ _ _ c.word_at-name.ensures c.bytes_at-schema.ensures c.bytes_at-bag.ensures c.tidy.ensures
