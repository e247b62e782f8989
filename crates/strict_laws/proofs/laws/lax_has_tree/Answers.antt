use Rattle.strict_laws.proofs.Values.{lax_has_tree}
use Rattle.strict_laws.proofs.laws.lax_has_tree.Goals as goal

pub returns : goal.returns
returns c = lax_has_tree
