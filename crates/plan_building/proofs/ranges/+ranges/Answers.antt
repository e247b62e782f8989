use Rattle.std.proofs.Common.{◌≡◌, map, rules, subst, sym}
use Rattle.building.specs.Buildable.{InRange}
use Rattle.typed_value.specs.declared.value.Value.{the_lemmas}
use Rattle.typed_value.specs.Values.{map_of, record_of}
use Rattle.typed_value.specs.View.{names_in, pair_of, pairs_of, vals_in, value}
use Rattle.plan_building.proofs.ranges.+ranges.Goals as goal

pub in_range-returns-in-Record : goal.in_range-returns-in-Record
in_range-returns-in-Record t c =
    let r = c.in-Record.record in
    let seen : value c.args.value.now ≡ record_of r.name (names_in (map pair_of r.fields)) (vals_in (map pair_of r.fields)) =
    rw c.in-Record.is (search (the_lemmas, rules)) in
    subst InRange (sym seen) (rw c.as_slice.ensures at c.fields_in_range.ensures)

pub in_range-returns-in-Map : goal.in_range-returns-in-Map
in_range-returns-in-Map t c =
    let d = c.in-Map.dict in
    let seen : value c.args.value.now ≡ map_of tt (pairs_of (map pair_of d.pairs)) d.unknown =
    rw c.in-Map.is (search (the_lemmas, rules)) in
    subst InRange (sym seen)
    (rw c.as_slice-in-Map.ensures at c.pairs_in_range.ensures, rw c.as_slice-in-Map-2.ensures at c.are_hashes.ensures)
