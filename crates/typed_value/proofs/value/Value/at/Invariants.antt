use Rattle.std.proofs.Common.{◌≡◌, drop, map}
use Rattle.typed_value.specs.Paths.{at_path}
use Rattle.typed_value.specs.View.{stride, value}
use Rattle.typed_value.proofs.value.Value.at.Given as goal

abbrev pub invariant-steps : goal.invariant-steps
invariant-steps l = at_path (value l.here) (map stride (drop l.step-index l.path.steps)) ≡ at_path (value l.self) (map stride l.path.steps)
