use Rattle.std.proofs.Common.{◌≡◌, map}
use Rattle.cell_nodes.specs.Levels.{levels_in}
use Rattle.cell_nodes.specs.Tree.{mark_at, marks, mask}
use Rattle.cell_nodes.proofs.exotic.marks_within.Given as goal

abbrev pub invariant-levels : goal.invariant-levels
invariant-levels l = l.found.items ≡ map (λ j. mark_at j (marks l.cell)) (levels_in l.i (mask l.cell))
