use Rattle.std.proofs.Common.{length}
use Rattle.cell_nodes.proofs.children.+all_good.Given as goal

abbrev pub decreases-all_good : goal.decreases-all_good
decreases-all_good l = length l.children.now
