use Rattle.hashmap_labels.specs.SpellingLaws.{has_size}
use Rattle.hashmap_labels.proofs.laws.has_size.Goals as goal

pub returns : goal.returns
returns c = has_size
