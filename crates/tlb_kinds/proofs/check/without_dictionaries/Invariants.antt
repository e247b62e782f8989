use Rattle.std.proofs.Common.{◌≡◌, ◌≤◌, ◌-◌, length, map, take}
use Rattle.tlb_syntax.specs.View.{constructor, schema}
use Rattle.kind_terms.specs.Dictionaries.{without_dictionaries}
use Rattle.tlb_kinds.proofs.check.without_dictionaries.Given as goal

abbrev pub invariant-loop-at : goal.invariant-loop-at
invariant-loop-at l = record {
  within : l.at ≤ length l.constructors;
  prefix : without_dictionaries (map constructor (take l.at l.constructors)) ≡ map constructor (take l.at l.constructors);
  same : without_dictionaries (map constructor l.constructors) ≡ without_dictionaries (schema l.fn.schema);
}

abbrev pub decreases-loop-at : goal.decreases-loop-at
decreases-loop-at l = length l.constructors - l.at
