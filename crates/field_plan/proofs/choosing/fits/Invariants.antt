use Rattle.std.proofs.Common.{◌≡◌, drop, map, take}
use Rattle.closed_type.specs.View.{closed_arg}
use Rattle.flat_form.specs.Stands.{input_of}
use Rattle.field_plan.specs.Choosing.{AreSmall}
use Rattle.field_plan.proofs.Fitting.{all_meet}
use Rattle.field_plan.proofs.choosing.fits.Given as goal

abbrev pub invariant-loop-place : goal.invariant-loop-place
invariant-loop-place l = record {
  rest :
      all_meet (map input_of l.inputs) (map closed_arg l.args)
      ≡ all_meet (map input_of (drop l.place l.inputs)) (map closed_arg (drop l.place l.args));
  small : AreSmall (map closed_arg (take l.place l.args));
}
