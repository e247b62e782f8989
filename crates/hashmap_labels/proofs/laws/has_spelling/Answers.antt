use Rattle.hashmap_labels.specs.SpellingLaws.{has_spelling}
use Rattle.hashmap_labels.proofs.laws.has_spelling.Goals as goal

pub returns : goal.returns
returns c = has_spelling
