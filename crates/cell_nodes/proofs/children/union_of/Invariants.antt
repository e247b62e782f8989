use Rattle.std.proofs.Common.{◌≡◌, ◌≤◌, take, map}
use Rattle.cell_nodes.specs.Tree.{union_of, marks}
use Rattle.cell_nodes.proofs.children.union_of.Given as goal

abbrev pub invariant-children : goal.invariant-children
invariant-children l = record { value : l.found ≡ union_of (map marks (take l.child-index l.children)); bound : l.found ≤ 7 }
