use Rattle.cli_commands.proofs.SameBuilds.{builds-same}
use Rattle.cli_commands.proofs.commands.build_in.Goals as goal

pub returns : goal.returns
returns c = builds-same _ _ _ _ _ _ _ c.word_at-name.ensures c.bytes_at-schema.ensures c.bytes_at-text.ensures c.build.ensures
