use Rattle.std.proofs.Common.{◌≡◌, ◌++◌, ◌+◌, ◌≤◌, length}
use Rattle.cell_nodes.specs.HeldLaws.{AreBelow}
use Rattle.plan_building.proofs.growing.add_held.Given as goal

abbrev pub invariant-loop-child : goal.invariant-loop-child
invariant-loop-child l = record {
  bits : l.cell.bits ≡ l.fn.cell.bits;
  refs : l.cell.refs ++ l.left ≡ l.fn.cell.refs ++ l.fn.refs;
  below : AreBelow l.left;
  room : length l.cell.refs + length l.left ≤ 4;
}

abbrev pub decreases-loop-child : goal.decreases-loop-child
decreases-loop-child l = length l.left
