use Rattle.hashmap_labels.specs.SpellingLaws.{label_bits}
use Rattle.hashmap_labels.proofs.laws.keeps_bits.Goals as goal

pub returns : goal.returns
returns c = label_bits
