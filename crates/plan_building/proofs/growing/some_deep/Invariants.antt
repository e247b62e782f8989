use Rattle.std.proofs.Common.{◌≡◌, drop}
use Rattle.cell_nodes.specs.HeldLaws.{AreBelow}
use Rattle.building.specs.Growing.{some_deep}
use Rattle.plan_building.proofs.growing.some_deep.Given as goal

abbrev pub invariant-loop-cell : goal.invariant-loop-cell
invariant-loop-cell l = record {
  same : some_deep (drop l.cell-index l.cells) ≡ some_deep l.cells;
  below : AreBelow (drop l.cell-index l.cells) → AreBelow l.cells;
}
