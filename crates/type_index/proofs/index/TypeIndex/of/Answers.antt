use Rattle.std.proofs.Common.{◌≡◌, ◌<◌, ◌∷◌, ◌++◌, ◌∙◌, [], ap, sym, subst, arith, length, map, take}
use Rattle.std.proofs.lemmas.List.{length-map, length-take-le, map_more, take_all}
use Rattle.tlb_syntax.specs.View.{constructor}
use Rattle.type_index.specs.Index.{AreEntries}
use Rattle.type_index.proofs.Entries.{no_entries}
use Rattle.type_index.proofs.index.TypeIndex.of.Goals as goal

pub loop-number-init : goal.loop-number-init
loop-number-init c = no_entries c.new-by_name.result c.new-by_name.ensures.empty

pub loop-number-preserved : goal.loop-number-preserved
loop-number-preserved c =
    let all = c.args.constructors.now in
    let n = c.loop-number.number in
    let here = c.index-constructors-number.result in
    let lt : n < length all = omega arith in
    let size : length (map constructor (take n all)) ≡ n = length-map (take n all) constructor ∙ length-take-le n all (omega arith) in
    let more = map_more constructor all n here lt ∙ ap (λ z. map constructor (take n all) ++ constructor z ∷ []) (sym c.index-constructors-number.is) in
    subst (AreEntries c.add.new.by_name) (sym more) (c.in_ok-add.ensures (map constructor (take n all)) size c.loop-number.invariant)

pub returns : goal.returns
returns c =
    subst (λ cs. AreEntries c.loop-number.by_name (map constructor cs))
    (take_all c.loop-number.number c.args.constructors.now c.loop-number-test.false) c.loop-number.invariant
