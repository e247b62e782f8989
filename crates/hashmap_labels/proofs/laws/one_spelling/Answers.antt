use Rattle.hashmap_labels.specs.SpellingLaws.{one_spelling}
use Rattle.hashmap_labels.proofs.laws.one_spelling.Goals as goal

pub returns : goal.returns
returns c = one_spelling
