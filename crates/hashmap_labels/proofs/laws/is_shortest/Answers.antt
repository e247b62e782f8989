use Rattle.hashmap_labels.specs.SpellingLaws.{is_best}
use Rattle.hashmap_labels.proofs.laws.is_shortest.Goals as goal

pub returns : goal.returns
returns c = is_best
