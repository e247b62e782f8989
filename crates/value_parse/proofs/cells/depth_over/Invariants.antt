use Rattle.std.proofs.Common.{◌≡◌, ◌≤◌, take, map}
use Rattle.cell_nodes.specs.Tree.{depth_over, marks}
use Rattle.value_parse.proofs.cells.depth_over.Given as goal

abbrev pub invariant-refs : goal.invariant-refs
invariant-refs l = record { value : l.found ≡ depth_over l.level (map marks (take l.child-index l.refs)); bound : l.found ≤ 1025 }
