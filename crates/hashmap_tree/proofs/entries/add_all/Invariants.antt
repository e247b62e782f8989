use Rattle.std.proofs.Common.{◌≡◌, ◌++◌, drop}
use Rattle.hashmap_tree.specs.Merged.{hidden_parts}
use Rattle.hashmap_tree.specs.Plants.{entries_of}
use Rattle.hashmap_tree.proofs.entries.add_all.Given as goal

abbrev pub invariant-parts : goal.invariant-parts
invariant-parts l =
    entries_of l.entries.items ++ hidden_parts (drop l.part-index l.parts)
    ≡ entries_of l.fn.entries.items ++ hidden_parts l.parts
