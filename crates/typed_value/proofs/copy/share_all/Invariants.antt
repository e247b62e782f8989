use Rattle.std.proofs.Common.{◌≡◌, take}
use Rattle.typed_value.proofs.copy.share_all.Given as goal

abbrev pub invariant-cells : goal.invariant-cells
invariant-cells l = l.shared ≡ take l.cell-index l.cells
