use Rattle.std.proofs.Common.{◌+◌, ◌*◌, map}
use Rattle.cell_nodes.specs.Tree.{total, unfolded}
use Rattle.value_text.proofs.cells.+cell.Given as goal

abbrev pub decreases-put_cell : goal.decreases-put_cell
decreases-put_cell l = 2 * unfolded l.shown.now

abbrev pub decreases-put_children : goal.decreases-put_children
decreases-put_children l = 2 * total (map unfolded l.refs) + 1
