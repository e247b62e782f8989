use Rattle.cli_commands.proofs.SameProofs.{proves-same}
use Rattle.cli_commands.proofs.commands.prove_in.Goals as goal

pub returns : goal.returns
returns c =
    proves-same _ _ _ _ _ _ _ _ _ c.path_words-paths.ensures c.word_at-name.ensures c.bytes_at-schema.ensures c.bytes_at-bag.ensures
    c.prove.ensures
