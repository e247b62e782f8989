use Rattle.std.proofs.Common.{◌≡◌, drop, map}
use Rattle.typed_value.specs.Paths.{entry_at}
use Rattle.typed_value.specs.View.{pair_of, pairs_of}
use Rattle.path_knowledge.proofs.step.entry.Given as goal

abbrev pub invariant-pairs : goal.invariant-pairs
invariant-pairs l =
    entry_at (pairs_of (map pair_of (drop l.found-index l.pairs))) l.key
    ≡ entry_at (pairs_of (map pair_of l.pairs)) l.key
