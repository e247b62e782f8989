use Rattle.type_word.specs.NamedLaws.{named_is_closed}
use Rattle.type_word.proofs.laws.named_is_closed.Goals as goal

pub returns : goal.returns
returns c = named_is_closed c.word_within_limits.ensures
