use Rattle.std.proofs.Common.{◌≡◌, take}
use Rattle.typed_value.proofs.copy.+copy.Given as goal

abbrev pub invariant-copy_items-items : goal.invariant-copy_items-items
invariant-copy_items-items l = l.copies ≡ take l.item-index l.items

abbrev pub invariant-copy_fields-fields : goal.invariant-copy_fields-fields
invariant-copy_fields-fields l = l.copies ≡ take l.name-index l.fields

abbrev pub invariant-copy_pairs-pairs : goal.invariant-copy_pairs-pairs
invariant-copy_pairs-pairs l = l.copies ≡ take l.key-index l.pairs
