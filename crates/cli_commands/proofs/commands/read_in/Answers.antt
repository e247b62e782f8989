use Rattle.cli_commands.proofs.SameInputs.{reads-same}
use Rattle.cli_commands.proofs.commands.read_in.Goals as goal

pub returns : goal.returns
returns c =
    reads-same _ _ _ _ _ _ _ _ c.word_at-word.ensures c.bytes_at-schema.ensures c.bytes_at-bag.ensures c.read.ensures
