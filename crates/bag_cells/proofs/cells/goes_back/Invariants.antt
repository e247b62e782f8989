use Rattle.std.proofs.Common.{◌≡◌}
use Rattle.bag_cells.specs.Cells.{goes_back}
use Rattle.bag_cells.proofs.cells.goes_back.Given as goal

abbrev pub invariant-refs : goal.invariant-refs
invariant-refs l = l.back ≡ goes_back l.raw l.i l.place l.k
