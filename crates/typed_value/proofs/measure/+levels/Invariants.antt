use Rattle.std.proofs.Common.{◌≡◌, drop, map, max, min}
use Rattle.typed_value.specs.Values.{levels_by, levels_in}
use Rattle.typed_value.specs.View.{pair_of, pairs_of, vals_in, vals_of, value}
use Rattle.typed_value.proofs.measure.+levels.Given as goal

abbrev pub invariant-levels_of_items-items : goal.invariant-levels_of_items-items
invariant-levels_of_items-items l =
    max l.most (min (levels_in (vals_of (map value (drop l.item-index l.items)))) l.limit) ≡ min (levels_in (vals_of (map value l.items))) l.limit

abbrev pub invariant-levels_of_fields-fields : goal.invariant-levels_of_fields-fields
invariant-levels_of_fields-fields l =
    max l.most (min (levels_in (vals_in (map pair_of (drop l.inner-index l.fields)))) l.limit) ≡ min (levels_in (vals_in (map pair_of l.fields))) l.limit

abbrev pub invariant-levels_of_pairs-pairs : goal.invariant-levels_of_pairs-pairs
invariant-levels_of_pairs-pairs l =
    max l.most (min (levels_by (pairs_of (map pair_of (drop l.inner-index l.pairs)))) l.limit) ≡ min (levels_by (pairs_of (map pair_of l.pairs))) l.limit
