use Rattle.std.proofs.Common.{◌∙◌, Ok, Err, List, ℕ, arith, ap, map, subst, sym}
use Rattle.std.specs.List.Sorted.{IsBinarySearchResult}
use Rattle.std.specs.Ordering.{nat_cmp}
use Rattle.tlb_syntax.specs.declared.tree.Constructor.{Constructor}
use Rattle.tlb_syntax.specs.View.{constructor}
use Rattle.type_index.specs.Index.{constructors_by, places_of}
use Rattle.field_plan.proofs.Naming.{of_named, not_empty, number_found, place_found, small_number}
use Rattle.field_plan.proofs.names.number_of.Goals as goal

pub unreachable-requires : goal.unreachable-requires
unreachable-requires c =
    let xs = c.args.constructors.now in
    let s = map constructor xs in
    let x = c.text.result.now in
    let k = c.index-constructors-place.result in
    let at = of_named xs c.args.place k x c.requires.there c.index-constructors-place.is
    (c.text.ensures.value ∙ ap (λ (z : Constructor). z.result) (sym c.index-constructors-place.is)) in
    not_empty s x c.args.place at.declaration at.there at.type
    (sym ((c.find.ensures.schema s c.requires.index).1) ∙ ap constructors_by c.in_default.is)

pub overflow_cast-result : goal.overflow_cast-result
overflow_cast-result c =
    let xs = c.args.constructors.now in
    let s = map constructor xs in
    let x = c.text.result.now in
    let k = c.index-constructors-place.result in
    let at = of_named xs c.args.place k x c.requires.there c.index-constructors-place.is
    (c.text.ensures.value ∙ ap (λ (z : Constructor). z.result) (sym c.index-constructors-place.is)) in
    let P : List ℕ → Type 0 = λ z. IsBinarySearchResult (λ y. nat_cmp y c.args.place) z (Ok c.in-Ok.before) in
    let found : P (places_of s x) = subst P (c.as_slice.ensures ∙ (c.in-Some.ensures.schema s c.requires.index).1) c.in-Ok.ensures.position in
    let is = number_found s x c.args.place c.in-Ok.before at.declaration found at.there in
    let small = small_number xs c.args.place at.declaration c.requires.few at.there in
    omega (arith, is, small)

pub overflow_add-result : goal.overflow_add-result
overflow_add-result c =
    let xs = c.args.constructors.now in
    let s = map constructor xs in
    let x = c.text.result.now in
    let k = c.index-constructors-place.result in
    let at = of_named xs c.args.place k x c.requires.there c.index-constructors-place.is
    (c.text.ensures.value ∙ ap (λ (z : Constructor). z.result) (sym c.index-constructors-place.is)) in
    let P : List ℕ → Type 0 = λ z. IsBinarySearchResult (λ y. nat_cmp y c.args.place) z (Ok c.in-Ok.before) in
    let found : P (places_of s x) = subst P (c.as_slice.ensures ∙ (c.in-Some.ensures.schema s c.requires.index).1) c.in-Ok.ensures.position in
    let is = number_found s x c.args.place c.in-Ok.before at.declaration found at.there in
    let small = small_number xs c.args.place at.declaration c.requires.few at.there in
    omega (arith, is, small)

pub unreachable-requires-in-Err : goal.unreachable-requires-in-Err
unreachable-requires-in-Err c =
    let xs = c.args.constructors.now in
    let s = map constructor xs in
    let x = c.text.result.now in
    let k = c.index-constructors-place.result in
    let at = of_named xs c.args.place k x c.requires.there c.index-constructors-place.is
    (c.text.ensures.value ∙ ap (λ (z : Constructor). z.result) (sym c.index-constructors-place.is)) in
    let P : List ℕ → Type 0 = λ z. IsBinarySearchResult (λ y. nat_cmp y c.args.place) z (Err c.in-Err.field-0) in
    let found : P (places_of s x) = subst P (c.as_slice.ensures ∙ (c.in-Some.ensures.schema s c.requires.index).1) c.in-Err.ensures.position in
    let Q : List ℕ → Type 0 = λ z. P (places_of s z) in
    place_found s c.args.place c.in-Err.field-0 at.declaration (subst Q (sym at.type) found) at.there

pub returns : goal.returns
returns c = λ d there.
    let xs = c.args.constructors.now in
    let s = map constructor xs in
    let x = c.text.result.now in
    let P : List ℕ → Type 0 = λ z. IsBinarySearchResult (λ y. nat_cmp y c.args.place) z (Ok c.in-Ok.before) in
    let found : P (places_of s x) = subst P (c.as_slice.ensures ∙ (c.in-Some.ensures.schema s c.requires.index).1) c.in-Ok.ensures.position in
    number_found s x c.args.place c.in-Ok.before d found there
