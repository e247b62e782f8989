use Rattle.hashmap_tree.specs.ExceedsLaws.{tree-fits}
use Rattle.hashmap_tree.proofs.laws.tree_fits.Goals as goal

pub returns : goal.returns
returns c = tree-fits
