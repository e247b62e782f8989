use Rattle.std.proofs.Common.{refl}
use Rattle.plan_reading.specs.StopLaws.{stops_at}
use Rattle.spelling.specs.Places.{stuck}
use Rattle.typed_builder.proofs.forms.refuse.Goals as goal

pub returns : goal.returns
returns c = record {
  value = λ h. stops_at h c.stop_here.result (stuck h c.args.cause) _ (c.stop_here.ensures h) refl;
  cell = λ h. stops_at h c.stop_here.result (stuck h c.args.cause) _ (c.stop_here.ensures h) refl;
}
