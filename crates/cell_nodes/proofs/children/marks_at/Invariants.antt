use Rattle.std.proofs.Common.{◌≡◌, take, map}
use Rattle.cell_nodes.specs.Tree.{mark_at, marks}
use Rattle.cell_nodes.proofs.children.marks_at.Given as goal

abbrev pub invariant-children : goal.invariant-children
invariant-children l = l.marks.items ≡ map (mark_at l.level) (map marks (take l.child-index l.children))
