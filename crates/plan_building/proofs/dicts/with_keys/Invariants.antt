use Rattle.std.proofs.Common.{◌≡◌, ◌++◌, drop, map}
use Rattle.building.specs.MapTests.{keys_of}
use Rattle.hashmap_tree.specs.Plants.{leaf_of}
use Rattle.typed_value.specs.View.{pair_of, pairs_of}
use Rattle.plan_building.proofs.dicts.with_keys.Given as goal

abbrev pub invariant-loop-key : goal.invariant-loop-key
invariant-loop-key l =
    map leaf_of l.leaves.items ++ keys_of (pairs_of (map pair_of (drop l.key-index l.pairs)))
    ≡ keys_of (pairs_of (map pair_of l.pairs))
