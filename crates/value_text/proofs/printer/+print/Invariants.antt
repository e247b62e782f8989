use Rattle.std.proofs.Common.{◌≡◌, ◌++◌, drop, map}
use Rattle.typed_value.specs.View.{names_in, pair_of, pairs_of, vals_in, vals_of, value}
use Rattle.value_text.specs.Text.{entries, fields, items, separated}
use Rattle.value_text.specs.TextLaws.{separated_from}
use Rattle.value_text.specs.Tokens.{written}
use Rattle.value_text.proofs.printer.+print.Given as goal

abbrev pub invariant-put_items-items : goal.invariant-put_items-items
invariant-put_items-items l =
    l.text.items ++ written (separated_from l.is_first (items (vals_of (map value (drop l.item-index l.shown)))))
    ≡ l.fn.text.items ++ written (separated (items (vals_of (map value l.shown))))

abbrev pub invariant-put_fields-fields : goal.invariant-put_fields-fields
invariant-put_fields-fields l =
    let left = map pair_of (drop l.name-index l.shown) in
    let all = map pair_of l.shown in
    l.text.items ++ written (separated_from l.is_first (fields (names_in left) (vals_in left)))
    ≡ l.fn.text.items ++ written (separated (fields (names_in all) (vals_in all)))

abbrev pub invariant-put_entries-pairs : goal.invariant-put_entries-pairs
invariant-put_entries-pairs l =
    l.text.items ++ written (separated_from l.is_first (entries (pairs_of (map pair_of (drop l.key-index l.pairs))) l.left))
    ≡ l.fn.text.items ++ written (separated (entries (pairs_of (map pair_of l.pairs)) l.unknown))
