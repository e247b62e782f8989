use Rattle.std.proofs.Common.{◌≡◌, take}
use Rattle.cell_nodes.proofs.children.share_all.Given as goal

abbrev pub invariant-children : goal.invariant-children
invariant-children l = l.shared.items ≡ take l.child-index l.children
