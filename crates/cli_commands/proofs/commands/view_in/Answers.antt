use Rattle.cli_commands.proofs.SameViews.{views-same}
use Rattle.cli_commands.proofs.commands.view_in.Goals as goal

pub returns : goal.returns
returns c =
    views-same _ _ _ _ _ _ _ _ _ _ c.word_at-name.ensures c.word_at.ensures c.root_hash-root.ensures c.bytes_at-schema.ensures
    c.bytes_at-bag.ensures c.view.ensures
