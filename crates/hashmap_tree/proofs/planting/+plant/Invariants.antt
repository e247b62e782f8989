use Rattle.std.proofs.Common.{◌+◌, ◌*◌}
use Rattle.hashmap_tree.proofs.planting.+plant.Given as goal

abbrev pub decreases-edge : goal.decreases-edge
decreases-edge l = 2 * l.n

abbrev pub decreases-branch : goal.decreases-branch
decreases-branch l = 2 * l.n + 1
