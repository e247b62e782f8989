use Rattle.std.proofs.Common.{take}
use Rattle.hashmap_tree.specs.Placed.{ArePlaced}
use Rattle.hashmap_tree.specs.Plants.{entries_of}
use Rattle.hashmap_tree.proofs.placing.misplaced.Given as goal

abbrev pub invariant-entries : goal.invariant-entries
invariant-entries l = ArePlaced (entries_of (take l.i l.entries)) (entries_of l.entries)
