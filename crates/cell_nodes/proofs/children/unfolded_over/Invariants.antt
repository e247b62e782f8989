use Rattle.std.proofs.Common.{◌≡◌, ◌+◌, take, map}
use Rattle.cell_nodes.specs.Tree.{total, unfolded, capped}
use Rattle.cell_nodes.proofs.children.unfolded_over.Given as goal

abbrev pub invariant-children : goal.invariant-children
invariant-children l = l.found ≡ capped (1 + total (map unfolded (take l.child-index l.children)))
