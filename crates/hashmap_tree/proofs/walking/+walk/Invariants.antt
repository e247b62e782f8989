use Rattle.std.proofs.Common.{◌+◌, ◌*◌}
use Rattle.hashmap_tree.proofs.walking.+walk.Given as goal

abbrev pub decreases-edge : goal.decreases-edge
decreases-edge l = 4 * l.n

abbrev pub decreases-branch : goal.decreases-branch
decreases-branch l = 4 * l.m + 1

abbrev pub decreases-branches : goal.decreases-branches
decreases-branches l = 4 * l.m + 2

abbrev pub decreases-forks : goal.decreases-forks
decreases-forks l = 4 * l.m + 3
