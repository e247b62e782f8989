use Rattle.std.proofs.Common.{◌+◌, ◌*◌, map}
use Rattle.cell_nodes.specs.Tree.{unfolded, total}
use Rattle.cell_pool.specs.Visited.{tree_at, trees_at}
use Rattle.cell_pool.proofs.order.+visit.Given as goal

abbrev pub decreases-visit : goal.decreases-visit
decreases-visit l = 2 * unfolded (tree_at l.pool.now l.id)

abbrev pub decreases-visit_all : goal.decreases-visit_all
decreases-visit_all l = 2 * total (map unfolded (trees_at l.pool.now l.ids.now)) + 1
