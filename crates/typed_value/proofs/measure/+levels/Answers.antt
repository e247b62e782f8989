use Rattle.std.proofs.Common.{◌≡◌, ◌+◌, ◌-◌, ap, map, min, rules, arith, ◌∙◌}
use Rattle.typed_value.specs.declared.value.Value.{the_lemmas}
use Rattle.typed_value.specs.Values.{map_of, levels, levels_by, levels_in, record_of}
use Rattle.typed_value.specs.View.{names_in, pair_of, pairs_of, vals_in, value}
use Rattle.typed_value.proofs.measure.+levels.Goals as goal

pub levels_within-returns-in-Record : goal.levels_within-returns-in-Record
levels_within-returns-in-Record t c =
    let r = c.in-Record.record in
    let n = c.args.limit in
    let seen : value c.args.of.now ≡ record_of r.name (names_in (map pair_of r.fields)) (vals_in (map pair_of r.fields)) =
    rw c.in-Record.is (search (the_lemmas, rules)) in
    let whole : levels (value c.args.of.now) ≡ 1 + levels_in (vals_in (map pair_of r.fields)) = ap levels seen in
    let inner : c.levels_of_fields.result ≡ min (levels_in (vals_in (map pair_of r.fields))) (n - 1) =
    c.levels_of_fields.ensures ∙ ap (λ z. min (levels_in (vals_in (map pair_of z))) (n - 1)) c.as_slice.ensures in
    omega arith

pub levels_within-returns-in-Map : goal.levels_within-returns-in-Map
levels_within-returns-in-Map t c =
    let d = c.in-Map.dict in
    let n = c.args.limit in
    let seen : value c.args.of.now ≡ map_of tt (pairs_of (map pair_of d.pairs)) d.unknown =
    rw c.in-Map.is (search (the_lemmas, rules)) in
    let whole : levels (value c.args.of.now) ≡ 1 + levels_by (pairs_of (map pair_of d.pairs)) = ap levels seen in
    let inner : c.levels_of_pairs.result ≡ min (levels_by (pairs_of (map pair_of d.pairs))) (n - 1) =
    c.levels_of_pairs.ensures ∙ ap (λ z. min (levels_by (pairs_of (map pair_of z))) (n - 1)) c.as_slice-in-Map.ensures in
    omega arith
