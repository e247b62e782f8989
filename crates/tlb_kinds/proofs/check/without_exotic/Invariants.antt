use Rattle.std.proofs.Common.{◌≡◌, ◌≤◌, ◌-◌, length, map, take}
use Rattle.tlb_syntax.specs.View.{constructor, schema}
use Rattle.tlb_kinds.specs.Refusals.{ordinary}
use Rattle.tlb_kinds.proofs.check.without_exotic.Given as goal

abbrev pub invariant-loop-at : goal.invariant-loop-at
invariant-loop-at l = record {
  within : l.at ≤ length l.constructors;
  prefix : ordinary (map constructor (take l.at l.constructors)) ≡ map constructor (take l.at l.constructors);
  same : ordinary (map constructor l.constructors) ≡ ordinary (schema l.fn.schema);
}

abbrev pub decreases-loop-at : goal.decreases-loop-at
decreases-loop-at l = length l.constructors - l.at
