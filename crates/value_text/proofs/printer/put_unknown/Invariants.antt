use Rattle.std.proofs.Common.{◌≡◌, ◌++◌, drop, map}
use Rattle.value_text.specs.Text.{hidden_entry}
use Rattle.value_text.specs.TextLaws.{first_after, separated_from}
use Rattle.value_text.specs.Tokens.{written}
use Rattle.value_text.proofs.printer.put_unknown.Given as goal

abbrev pub invariant-unknown : goal.invariant-unknown
invariant-unknown l =
    (l.text.items ++ written (separated_from l.still (map hidden_entry (drop l.prefix-index l.unknown)))
    ≡ l.fn.text.items ++ written (separated_from l.is_first (map hidden_entry l.unknown)))
    × (first_after l.still (map hidden_entry (drop l.prefix-index l.unknown)) ≡ first_after l.is_first (map hidden_entry l.unknown))
