use Rattle.std.proofs.Common.{◌≡◌, ◌++◌, drop, map}
use Rattle.hashmap_tree.specs.Merged.{merged}
use Rattle.hashmap_tree.specs.Plants.{entries_of, leaf_of}
use Rattle.hashmap_tree.proofs.entries.merged.Given as goal

abbrev pub invariant-leaves : goal.invariant-leaves
invariant-leaves l =
    entries_of l.entries.items ++ merged (map leaf_of (drop l.leaf-index l.leaves)) l.rest
    ≡ merged (map leaf_of l.leaves) l.unknown
