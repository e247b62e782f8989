use Rattle.std.proofs.Common.{◌≡◌, Some, map, take}
use Rattle.typed_value.specs.View.{stride}
use Rattle.value_text.specs.declared.point.Point.TheVariants.{Root}
use Rattle.value_text.specs.PathPoints.{walk}
use Rattle.value_text.proofs.PathStands.{So}
use Rattle.value_text.proofs.path.read_steps.Given as goal

abbrev pub invariant-bytes : goal.invariant-bytes
invariant-bytes l = record {
  walked : walk Root (take l.i l.text) ≡ Some l.point;
  so : So (map stride l.steps) l.start l.point (take l.i l.text);
}
