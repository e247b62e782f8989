use Rattle.std.proofs.Common.{◌≡◌, ◌∙◌, ap, sym, map, rules}
use Rattle.typed_value.specs.declared.value.Value.{the_lemmas}
use Rattle.typed_value.specs.Values.{record_of, map_of}
use Rattle.typed_value.specs.Paths.{in_map, in_record, step_at}
use Rattle.typed_value.specs.View.{names_in, pair_of, pairs_of, stride, vals_in, value}
use Rattle.path_knowledge.proofs.step.+step_of.Goals as goal

pub returns-in-Record : goal.returns-in-Record
returns-in-Record t c =
    let s = stride c.args.step.now in
    let r = c.in-Record.record in
    let seen : value c.args.from.now ≡ record_of r.name (names_in (map pair_of r.fields)) (vals_in (map pair_of r.fields)) =
    rw c.in-Record.is (search (the_lemmas, rules)) in
    c.in_record.ensures ∙ ap (λ z. in_record (names_in (map pair_of z)) (vals_in (map pair_of z)) s) c.as_slice.ensures
    ∙ sym (ap (λ v. step_at v s) seen)

pub returns-in-Map : goal.returns-in-Map
returns-in-Map t c =
    let s = stride c.args.step.now in
    let d = c.in-Map.dict in
    let seen : value c.args.from.now ≡ map_of tt (pairs_of (map pair_of d.pairs)) d.unknown =
    rw c.in-Map.is (search (the_lemmas, rules)) in
    c.in_map.ensures ∙ ap (λ z. in_map (pairs_of (map pair_of z)) s) c.as_slice-in-Map.ensures
    ∙ sym (ap (λ v. step_at v s) seen)
