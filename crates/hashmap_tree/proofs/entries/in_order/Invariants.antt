use Rattle.std.proofs.Common.{drop}
use Rattle.hashmap_tree.specs.Plants.{entries_of}
use Rattle.hashmap_tree.proofs.KeySteps.{StillIn}
use Rattle.hashmap_tree.proofs.entries.in_order.Given as goal

abbrev pub invariant-entries : goal.invariant-entries
invariant-entries l = StillIn l.n (entries_of l.entries) l.before (entries_of (drop l.entry-index l.entries))
