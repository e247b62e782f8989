use Rattle.std.proofs.Common.{◌≡◌, ◌∙◌, ◌+◌, Some, ap, arith, sym}
use Rattle.std.specs.Option.{option_copied}
use Rattle.std.specs.Prelude.{slice_get}
use Rattle.std.proofs.lemmas.Option.{none-some}
use Rattle.tlb_syntax.specs.View.{schema}
use Rattle.core_form.specs.Core.{Declaration}
use Rattle.schema_leads.specs.Tags.{cores}
use Rattle.field_plan.proofs.Choice.{had, none_at_zero, none_past, place_at, place_within, shown_here, there_at}
use Rattle.field_plan.proofs.plan.Plan.shown.Goals as goal

pub returns-in_err-place : goal.returns-in_err-place
returns-in_err-place c = λ name. (
  λ e. absurd (none-some name (sym (ap option_copied c.from_residual.ensures) ∙ e)),
  λ h. absurd (none_at_zero (schema c.args.self.now.0) c.args.type_name.now name c.args.number c.in_err-place.ensures h),
)

pub returns-in_err-c : goal.returns-in_err-c
returns-in_err-c c = λ name. (
  λ e. absurd (none-some name (sym (ap option_copied c.from_residual-in_err-c.ensures) ∙ e)),
  λ h.
      let number : c.args.number ≡ c.in_ok-place.place + 1 = omega (arith, c.in_ok-place.ensures.0, c.in_ok-place.ensures.1) in
      absurd (none_past (schema c.args.self.now.0) c.args.type_name.now name c.args.number c.in_ok-place.place c.of_type.result.now
      c.of_type.ensures.places number c.in_err-c.ensures.lookup.3 h),
)

pub shown_name-requires : goal.shown_name-requires
shown_name-requires c =
    let s = schema c.args.self.now.0 in
    let x = c.args.type_name.now in
    let k = c.in_ok-place.place in
    let there = c.in_ok-c.ensures.lookup.3 in
    let here = place_at s x c.of_type.result.now k c.of_type.ensures.places there.0 ∙ ap Some (sym (there.1 0)) in
    omega (arith, place_within s x k c.in_ok-c.c.now here, c.of_type.ensures.count)

pub returns : goal.returns
returns c = λ name.
    let s = schema c.args.self.now.0 in
    let x = c.args.type_name.now in
    let k = c.in_ok-place.place in
    let p = c.in_ok-c.c.now in
    let there = c.in_ok-c.ensures.lookup.3 in
    let here = place_at s x c.of_type.result.now k c.of_type.ensures.places there.0 ∙ ap Some (sym (there.1 0)) in
    let it = there_at (cores s) p (place_within s x k p here) in
    let number : c.args.number ≡ k + 1 = omega (arith, c.in_ok-place.ensures.0, c.in_ok-place.ensures.1) in
    shown_here s x name c.shown_name.result.now c.args.number k p it.declaration here it.there number
    (had (λ (d : Declaration). d.shown) (slice_get (cores s) p) it.declaration c.shown_name.result.now c.shown_name.ensures it.there)
