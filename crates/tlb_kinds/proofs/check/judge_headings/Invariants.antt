use Rattle.std.proofs.Common.{◌≡◌, [], drop, map, take}
use Rattle.tlb_syntax.specs.View.{constructor}
use Rattle.tlb_kinds.specs.Refusals.{of_headings}
use Rattle.tlb_kinds.proofs.check.judge_headings.Given as goal

abbrev pub invariant-loop-index : goal.invariant-loop-index
invariant-loop-index l = record {
  types : l.types ≡ take l.index l.constructors;
  passed : of_headings [] (map constructor l.constructors)
      ≡ of_headings (map constructor (take l.index l.constructors)) (map constructor (drop l.index l.constructors));
}
