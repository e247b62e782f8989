use Rattle.std.proofs.Common.{◌≡◌, ◌++◌, length}
use Rattle.hashmap_tree.specs.Merged.{hidden_parts, those_before, those_after}
use Rattle.hashmap_tree.specs.Plants.{entries_of}
use Rattle.hashmap_tree.proofs.entries.add_before.Given as goal

abbrev pub invariant-parts : goal.invariant-parts
invariant-parts l = record {
  added : entries_of l.entries.items ++ hidden_parts (those_before l.key l.rest)
      ≡ entries_of l.fn.entries.items ++ hidden_parts (those_before l.key l.unknown);
  after : those_after l.key l.rest ≡ those_after l.key l.unknown;
}

abbrev pub decreases-parts : goal.decreases-parts
decreases-parts l = length l.rest
