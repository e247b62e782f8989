use Rattle.std.proofs.Common.{◌∙◌, ap, map}
use Rattle.std.specs.Prelude.{is_some}
use Rattle.closed_type.specs.View.{closed_args}
use Rattle.core_form.specs.Fit.{meet_all}
use Rattle.core_form.specs.Scope.{unset}
use Rattle.flat_form.specs.Stands.{input_of}
use Rattle.field_plan.proofs.plan.Plan.fits.Goals as goal

pub returns-clause-value : goal.returns-clause-value
returns-clause-value c = λ d there.
    c.fits.ensures.value (unset d.core.slots)
    ∙ ap (λ z. is_some (meet_all z (closed_args c.args.args.now) (unset d.core.slots)))
    (ap (map input_of) c.as_slice.ensures ∙ (c.constructor.ensures.stands d there).inputs)
