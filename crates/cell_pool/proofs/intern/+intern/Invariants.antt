use Rattle.std.proofs.Common.{◌+◌, ◌*◌, map}
use Rattle.cell_nodes.specs.Tree.{unfolded, total}
use Rattle.cell_pool.proofs.intern.+intern.Given as goal

abbrev pub decreases-add : goal.decreases-add
decreases-add l = 2 * unfolded l.cell.now

abbrev pub decreases-add_all : goal.decreases-add_all
decreases-add_all l = 2 * total (map unfolded l.refs) + 1
