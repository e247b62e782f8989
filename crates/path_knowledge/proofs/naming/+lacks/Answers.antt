use Rattle.std.proofs.Common.{◌≡◌, ◌∙◌, ap, sym, map, rules}
use Rattle.typed_value.specs.declared.value.Value.{the_lemmas}
use Rattle.typed_value.specs.Values.{map_of}
use Rattle.typed_value.specs.View.{pair_of, pairs_of, stride, value}
use Rattle.pruning.specs.Knowing.{lacks, lacks_key}
use Rattle.path_knowledge.proofs.naming.+lacks.Goals as goal

pub returns-in-Map : goal.returns-in-Map
returns-in-Map t c =
    let s = stride c.args.step.now in
    let d = c.in-Map.dict in
    let seen : value c.args.value.now ≡ map_of tt (pairs_of (map pair_of d.pairs)) d.unknown =
    rw c.in-Map.is (search (the_lemmas, rules)) in
    c.lacks_key.ensures ∙ ap (λ z. lacks_key (pairs_of (map pair_of z)) s) c.as_slice.ensures
    ∙ sym (ap (λ v. lacks v s) seen)
