use Rattle.std.proofs.Common.{arith, map, sym}
use Rattle.std.proofs.lemmas.List.{length-map}
use Rattle.closed_type.specs.View.{closed_arg}
use Rattle.core_form.specs.Scope.{unset}
use Rattle.flat_form.specs.Stands.{input_of}
use Rattle.plan_reading.proofs.Fitting.{meet_uneven}
use Rattle.plan_reading.proofs.fits.fit.Goals as goal

pub returns-then-inputs-args : goal.returns-then-inputs-args
returns-then-inputs-args c =
    let inputs = c.args.inputs.now in
    let args = c.args.args.now in
    sym (meet_uneven (map input_of inputs) (map closed_arg args) (unset c.args.count)
    (λ e. omega (arith, length-map inputs input_of, length-map args closed_arg, e)))
