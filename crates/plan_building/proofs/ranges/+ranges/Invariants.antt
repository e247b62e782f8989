use Rattle.std.proofs.Common.{drop, map}
use Rattle.building.specs.Buildable.{AllInRange, PairsInRange}
use Rattle.typed_value.specs.View.{pair_of, pairs_of, value, vals_in, vals_of}
use Rattle.plan_building.proofs.ranges.+ranges.Given as goal

abbrev pub invariant-all_in_range-loop-item : goal.invariant-all_in_range-loop-item
invariant-all_in_range-loop-item l =
    AllInRange (vals_of (map value (drop l.item-index l.items))) → AllInRange (vals_of (map value l.items))

abbrev pub invariant-fields_in_range-loop-value : goal.invariant-fields_in_range-loop-value
invariant-fields_in_range-loop-value l =
    AllInRange (vals_in (map pair_of (drop l.value-index l.fields))) → AllInRange (vals_in (map pair_of l.fields))

abbrev pub invariant-pairs_in_range-loop-value : goal.invariant-pairs_in_range-loop-value
invariant-pairs_in_range-loop-value l =
    PairsInRange (pairs_of (map pair_of (drop l.value-index l.pairs))) → PairsInRange (pairs_of (map pair_of l.pairs))
