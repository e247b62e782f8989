use Rattle.std.proofs.Common.{◌≡◌, ◌≤◌, ◌+◌, ◌-◌, drop, map, min}
use Rattle.typed_value.specs.Values.{parts_by, parts_in}
use Rattle.typed_value.specs.View.{pair_of, pairs_of, vals_in, vals_of, value}
use Rattle.typed_value.proofs.measure.+parts.Given as goal

-- what is counted and what is still to be counted are all, up to the limit
abbrev pub invariant-parts_of_items-items : goal.invariant-parts_of_items-items
invariant-parts_of_items-items l =
    (l.left ≤ l.limit) × (min (parts_in (vals_of (map value (drop l.item-index l.items)))) l.left + (l.limit - l.left) ≡ min (parts_in (vals_of (map value l.items))) l.limit)

abbrev pub invariant-parts_of_fields-fields : goal.invariant-parts_of_fields-fields
invariant-parts_of_fields-fields l =
    (l.left ≤ l.limit) × (min (parts_in (vals_in (map pair_of (drop l.inner-index l.fields)))) l.left + (l.limit - l.left) ≡ min (parts_in (vals_in (map pair_of l.fields))) l.limit)

abbrev pub invariant-parts_of_pairs-pairs : goal.invariant-parts_of_pairs-pairs
invariant-parts_of_pairs-pairs l =
    (l.left ≤ l.limit) × (min (parts_by (pairs_of (map pair_of (drop l.inner-index l.pairs)))) l.left + (l.limit - l.left) ≡ min (parts_by (pairs_of (map pair_of l.pairs))) l.limit)
