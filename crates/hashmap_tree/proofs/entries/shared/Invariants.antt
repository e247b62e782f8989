use Rattle.std.proofs.Common.{◌≡◌, take}
use Rattle.hashmap_tree.proofs.entries.shared.Given as goal

abbrev pub invariant-bits : goal.invariant-bits
invariant-bits l = take l.i l.a ≡ take l.i l.b
