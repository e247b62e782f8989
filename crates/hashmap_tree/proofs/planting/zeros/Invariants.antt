use Rattle.std.proofs.Common.{◌≡◌, ◌+◌, drop}
use Rattle.hashmap_tree.specs.Plants.{entries_of, zeros_before}
use Rattle.hashmap_tree.proofs.planting.zeros.Given as goal

abbrev pub invariant-entries : goal.invariant-entries
invariant-entries l =
    zeros_before l.place (entries_of l.entries) ≡ l.i + zeros_before l.place (entries_of (drop l.i l.entries))
