use Rattle.hashmap_labels.specs.SpellingLaws.{one_label}
use Rattle.hashmap_labels.proofs.laws.one_label.Goals as goal

pub returns : goal.returns
returns c = one_label
