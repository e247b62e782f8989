use Rattle.std.proofs.Common.{◌≡◌, drop, map}
use Rattle.typed_value.specs.Paths.{field_at}
use Rattle.typed_value.specs.View.{names_in, pair_of, vals_in}
use Rattle.path_knowledge.proofs.step.field.Given as goal

abbrev pub invariant-fields : goal.invariant-fields
invariant-fields l =
    field_at (names_in (map pair_of (drop l.found-index l.fields))) (vals_in (map pair_of (drop l.found-index l.fields))) l.name
    ≡ field_at (names_in (map pair_of l.fields)) (vals_in (map pair_of l.fields)) l.name
