use Rattle.std.proofs.Common.{◌≡◌, ◌∙◌, ◌≤◌, [], Some, ap, arith, get_or, length, map, sym}
use Rattle.std.specs.Prelude.{slice_get}
use Rattle.std.proofs.lemmas.Bool.{both_ways}
use Rattle.std.proofs.lemmas.List.{length-map}
use Rattle.std.proofs.lemmas.Option.{same_Some}
use Rattle.tlb_syntax.specs.View.{constructor, schema}
use Rattle.closed_type.specs.View.{closed_arg, closed_args}
use Rattle.core_form.specs.Core.{Declaration}
use Rattle.schema_leads.specs.Tags.{cores}
use Rattle.type_index.specs.Index.{places_of}
use Rattle.field_plan.specs.Choosing.{Enters}
use Rattle.field_plan.proofs.Choice.{entered, none_at_all, none_of_more, not_begun, one_entered, place_at, place_within, there_at}
use Rattle.field_plan.proofs.Declared.{core_count}
use Rattle.field_plan.proofs.plan.Plan.choose.Goals as goal
use Rattle.field_plan.proofs.plan.Plan.choose.Goals.{else-fits-via-then-fits+else-some_begins, else-fits-via-else-fits}

pub fits-requires : goal.fits-requires
fits-requires c =
    let s = schema c.args.self.now.0 in
    let x = c.args.type_name.now in
    let items = c.of_type-c-items.result.now in
    let here = place_at s x items c.loop-c.c-index c.of_type-c-items.ensures.places c.loop-c-test.true in
    omega (arith, place_within s x c.loop-c.c-index (get_or items c.loop-c.c-index 0) here, c.of_type-c-items.ensures.count)

pub leads-requires : goal.leads-requires
leads-requires c =
    let s = schema c.args.self.now.0 in
    let x = c.args.type_name.now in
    let items = c.of_type-c-items.result.now in
    let here = place_at s x items c.loop-c.c-index c.of_type-c-items.ensures.places c.loop-c-test.true in
    omega (
      arith,
      place_within s x c.loop-c.c-index (get_or items c.loop-c.c-index 0) here,
      core_count s [] s,
      length-map c.args.self.now.0.constructors constructor,
    )

pub returns-then-some_begins-clause-there : goal.returns-then-some_begins-clause-there
returns-then-some_begins-clause-there c =
    let s = schema c.args.self.now.0 in
    let x = c.args.type_name.now in
    let items = c.of_type-c-items.result.now in
    let here = place_at s x items c.loop-c.c-index c.of_type-c-items.ensures.places c.loop-c-test.true in
    place_within s x c.loop-c.c-index (get_or items c.loop-c.c-index 0) here

pub returns-then-some_begins-clause-enters : goal.returns-then-some_begins-clause-enters
returns-then-some_begins-clause-enters c = λ n d there is.
    let s = schema c.args.self.now.0 in
    let x = c.args.type_name.now in
    let k = c.loop-c.c-index in
    let items = c.of_type-c-items.result.now in
    let p = get_or items k 0 in
    let here = place_at s x items k c.of_type-c-items.ensures.places c.loop-c-test.true in
    let at : slice_get (cores s) p ≡ Some d = ap (slice_get (cores s)) (same_Some p n is) ∙ there in
    entered s x (closed_args c.args.args.now) c.args.prefix k p d c.fits.result c.some_begins.result c.leads.result.now here at
    (c.fits.ensures.value d at) c.if-fits.true c.leads.ensures c.some_begins.ensures c.if-some_begins.true

pub returns-then-some_begins-clause-only : goal.returns-then-some_begins-clause-only
returns-then-some_begins-clause-only c = λ n e there h.
    let s = schema c.args.self.now.0 in
    let x = c.args.type_name.now in
    let k = c.loop-c.c-index in
    let items = c.of_type-c-items.result.now in
    let p = get_or items k 0 in
    let here = place_at s x items k c.of_type-c-items.ensures.places c.loop-c-test.true in
    let it = there_at (cores s) p (place_within s x k p here) in
    let d = it.declaration in
    let first = entered s x (closed_args c.args.args.now) c.args.prefix k p d c.fits.result c.some_begins.result c.leads.result.now here it.there
    (c.fits.ensures.value d it.there) c.if-fits.true c.leads.ensures c.some_begins.ensures c.if-some_begins.true in
    ap Some (one_entered s x (map closed_arg c.args.args.now) c.args.prefix c.of_type-c-items.ensures.one_constructor
    (c.fits.ensures.small c.if-fits.true) p n d e it.there there first h)

pub loop-c-preserved : goal.loop-c-preserved
loop-c-preserved c =
    let s = schema c.args.self.now.0 in
    let x = c.args.type_name.now in
    let k = c.loop-c.c-index in
    let items = c.of_type-c-items.result.now in
    let p = get_or items k 0 in
    let here = place_at s x items k c.of_type-c-items.ensures.places c.loop-c-test.true in
    let it = there_at (cores s) p (place_within s x k p here) in
    let d = it.declaration in
    let P : Declaration → Type 0 = Enters (cores s) x (closed_args c.args.args.now) c.args.prefix in
    none_of_more (cores s) P (places_of s x) k p d c.loop-c.invariant here it.there (elim c.else-fits.branch [
      | else-fits-via-then-fits+else-some_begins w ↦ λ h.
          not_begun (cores s) d p w.some_begins.result w.leads.result.now c.args.prefix it.there w.leads.ensures w.some_begins.ensures w.if-some_begins.false h.begins
      | else-fits-via-else-fits w ↦ λ h. both_ways _ (sym (c.fits.ensures.value d it.there) ∙ w.if-fits.false) h.fits
    ])

pub returns-clause-only : goal.returns-clause-only
returns-clause-only c = λ n d there h.
    let s = schema c.args.self.now.0 in
    let x = c.args.type_name.now in
    let k = c.loop-c.c-index in
    let P : Declaration → Type 0 = Enters (cores s) x (closed_args c.args.args.now) c.args.prefix in
    let all : length (places_of s x) ≤ k = omega (arith, c.loop-c-test.false, ap length c.of_type-c-items.ensures.places) in
    absurd (none_at_all s x P k (λ d h. h.of_type) c.loop-c.invariant all n d there h)
