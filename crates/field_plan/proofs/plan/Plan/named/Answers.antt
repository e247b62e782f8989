use Rattle.std.proofs.Common.{◌≡◌, ◌∙◌, ◌≤◌, Some, ap, arith, get_or, length, map, sym}
use Rattle.std.specs.Prelude.{slice_get}
use Rattle.std.proofs.lemmas.Bool.{both_ways}
use Rattle.std.proofs.lemmas.Option.{same_Some}
use Rattle.tlb_syntax.specs.View.{schema}
use Rattle.closed_type.specs.View.{closed_arg, closed_args}
use Rattle.core_form.specs.Core.{Declaration}
use Rattle.schema_leads.specs.Tags.{cores}
use Rattle.type_index.specs.Index.{places_of}
use Rattle.field_plan.specs.Choosing.{IsNamed}
use Rattle.field_plan.proofs.Choice.{is_named, none_at_all, none_of_more, not_named, one_named, place_at, place_within, there_at}
use Rattle.field_plan.proofs.plan.Plan.named.Goals as goal
use Rattle.field_plan.proofs.plan.Plan.named.Goals.{else-same-via-then-same+else-fits, else-same-via-else-same}

pub shown_name-requires : goal.shown_name-requires
shown_name-requires c =
    let s = schema c.args.self.now.0 in
    let x = c.args.type_name.now in
    let items = c.of_type-c-items.result.now in
    let here = place_at s x items c.loop-c.c-index c.of_type-c-items.ensures.places c.loop-c-test.true in
    omega (arith, place_within s x c.loop-c.c-index (get_or items c.loop-c.c-index 0) here, c.of_type-c-items.ensures.count)

pub fits-requires : goal.fits-requires
fits-requires c =
    let s = schema c.args.self.now.0 in
    let x = c.args.type_name.now in
    let items = c.of_type-c-items.result.now in
    let here = place_at s x items c.loop-c.c-index c.of_type-c-items.ensures.places c.loop-c-test.true in
    omega (arith, place_within s x c.loop-c.c-index (get_or items c.loop-c.c-index 0) here, c.of_type-c-items.ensures.count)

pub returns-then-fits-clause-there : goal.returns-then-fits-clause-there
returns-then-fits-clause-there c =
    let s = schema c.args.self.now.0 in
    let x = c.args.type_name.now in
    let items = c.of_type-c-items.result.now in
    let here = place_at s x items c.loop-c.c-index c.of_type-c-items.ensures.places c.loop-c-test.true in
    place_within s x c.loop-c.c-index (get_or items c.loop-c.c-index 0) here

pub returns-then-fits-clause-named : goal.returns-then-fits-clause-named
returns-then-fits-clause-named c = λ n d there is.
    let s = schema c.args.self.now.0 in
    let x = c.args.type_name.now in
    let k = c.loop-c.c-index in
    let items = c.of_type-c-items.result.now in
    let p = get_or items k 0 in
    let here = place_at s x items k c.of_type-c-items.ensures.places c.loop-c-test.true in
    let at : slice_get (cores s) p ≡ Some d = ap (slice_get (cores s)) (same_Some p n is) ∙ there in
    is_named s x c.args.shown.now c.shown_name.result.now (closed_args c.args.args.now) k p d c.same.result c.fits.result here at
    c.shown_name.ensures c.same.ensures c.if-same.true (c.fits.ensures.value d at) c.if-fits.true

pub returns-then-fits-clause-only : goal.returns-then-fits-clause-only
returns-then-fits-clause-only c = λ n e there h.
    let s = schema c.args.self.now.0 in
    let x = c.args.type_name.now in
    let k = c.loop-c.c-index in
    let items = c.of_type-c-items.result.now in
    let p = get_or items k 0 in
    let here = place_at s x items k c.of_type-c-items.ensures.places c.loop-c-test.true in
    let it = there_at (cores s) p (place_within s x k p here) in
    let d = it.declaration in
    let first = is_named s x c.args.shown.now c.shown_name.result.now (closed_args c.args.args.now) k p d c.same.result c.fits.result here it.there
    c.shown_name.ensures c.same.ensures c.if-same.true (c.fits.ensures.value d it.there) c.if-fits.true in
    ap Some (one_named s x c.args.shown.now (map closed_arg c.args.args.now) c.of_type-c-items.ensures.apart p n d e it.there there first h)

pub loop-c-preserved : goal.loop-c-preserved
loop-c-preserved c =
    let s = schema c.args.self.now.0 in
    let x = c.args.type_name.now in
    let k = c.loop-c.c-index in
    let items = c.of_type-c-items.result.now in
    let p = get_or items k 0 in
    let here = place_at s x items k c.of_type-c-items.ensures.places c.loop-c-test.true in
    let it = there_at (cores s) p (place_within s x k p here) in
    let d = it.declaration in
    let P : Declaration → Type 0 = IsNamed x (closed_args c.args.args.now) c.args.shown.now in
    none_of_more (cores s) P (places_of s x) k p d c.loop-c.invariant here it.there (elim c.else-same.branch [
      | else-same-via-then-same+else-fits w ↦ λ h. both_ways _ (sym (w.fits.ensures.value d it.there) ∙ w.if-fits.false) h.fits
      | else-same-via-else-same w ↦ λ h.
          not_named (cores s) d p c.args.shown.now c.shown_name.result.now c.same.result it.there c.shown_name.ensures c.same.ensures w.if-same.false h.shown
    ])

pub returns-clause-only : goal.returns-clause-only
returns-clause-only c = λ n d there h.
    let s = schema c.args.self.now.0 in
    let x = c.args.type_name.now in
    let k = c.loop-c.c-index in
    let P : Declaration → Type 0 = IsNamed x (closed_args c.args.args.now) c.args.shown.now in
    let all : length (places_of s x) ≤ k = omega (arith, c.loop-c-test.false, ap length c.of_type-c-items.ensures.places) in
    absurd (none_at_all s x P k (λ d h. h.of_type) c.loop-c.invariant all n d there h)
