use Rattle.std.proofs.Common.{◌≡◌, ◌++◌, ◌+◌, ◌≤◌, length}
use Rattle.cell_nodes.specs.HeldLaws.{AreBelow}
use Rattle.hashmap_tree.proofs.planting.push_refs.Given as goal

abbrev pub invariant-refs : goal.invariant-refs
invariant-refs l = record {
  bits : l.cell.bits ≡ l.fn.cell.bits;
  refs : l.cell.refs ++ l.rest ≡ l.fn.cell.refs ++ l.fn.refs;
  below : AreBelow l.rest;
  room : length l.cell.refs + length l.rest ≤ 4;
}

abbrev pub decreases-refs : goal.decreases-refs
decreases-refs l = length l.rest
