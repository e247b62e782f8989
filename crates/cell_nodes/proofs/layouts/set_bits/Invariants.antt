use Rattle.std.proofs.Common.{◌≡◌}
use Rattle.cell_nodes.specs.Levels.{set_bits}
use Rattle.cell_nodes.proofs.layouts.set_bits.Given as goal

abbrev pub invariant-levels : goal.invariant-levels
invariant-levels l = l.count ≡ set_bits l.i l.mask
