use Rattle.std.proofs.Common.{◌≡◌}
use Rattle.plan_building.specs.Sides.{items_with}
use Rattle.plan_building.proofs.halves.split.Given as goal

abbrev pub invariant-loop-key : goal.invariant-loop-key
invariant-loop-key g l = record {
  zeros : l.zeros.items ≡ items_with 0 l.yielded;
  ones : l.ones.items ≡ items_with 1 l.yielded;
}
