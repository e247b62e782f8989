use Rattle.std.proofs.Common.{◌≡◌, ◌≤◌, take, map}
use Rattle.cell_nodes.specs.Tree.{depth_over, marks}
use Rattle.cell_nodes.proofs.children.depth_over.Given as goal

abbrev pub invariant-children : goal.invariant-children
invariant-children l = record { value : l.found ≡ depth_over l.level (map marks (take l.child-index l.children)); bound : l.found ≤ 1025 }
