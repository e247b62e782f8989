use Rattle.hashmap_tree.specs.MergedLaws.{merged-parts}
use Rattle.hashmap_tree.proofs.laws.merged_has_parts.Goals as goal

pub returns : goal.returns
returns c = merged-parts
