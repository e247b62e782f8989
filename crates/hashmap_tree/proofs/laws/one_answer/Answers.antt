use Rattle.hashmap_tree.specs.PlantedLaws.{one-answer}
use Rattle.hashmap_tree.proofs.laws.one_answer.Goals as goal

pub returns : goal.returns
returns c = one-answer
