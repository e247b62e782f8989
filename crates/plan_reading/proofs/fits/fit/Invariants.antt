use Rattle.std.proofs.Common.{◌≡◌, length, map, drop}
use Rattle.closed_type.specs.View.{closed_args}
use Rattle.core_form.specs.Fit.{meet_all}
use Rattle.core_form.specs.Scope.{unset}
use Rattle.flat_form.specs.Stands.{input_of}
use Rattle.plan_reading.specs.Slots.{slots_view}
use Rattle.plan_reading.proofs.fits.fit.Given as goal

abbrev pub invariant-loop-place : goal.invariant-loop-place
invariant-loop-place l = record {
  even : length l.inputs ≡ length l.args;
  met : meet_all (map input_of (drop l.place l.inputs)) (closed_args (drop l.place l.args)) (slots_view l.slots)
      ≡ meet_all (map input_of l.inputs) (closed_args l.args) (unset l.count);
}
