use Rattle.hashmap_labels.specs.SpellingLaws.{label_or_refusal}
use Rattle.hashmap_labels.proofs.laws.label_or_refusal.Goals as goal

pub returns : goal.returns
returns c = label_or_refusal
