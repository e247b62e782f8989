use Rattle.std.proofs.Common.{◌≡◌, [], drop, map, take}
use Rattle.tlb_syntax.specs.View.{constructor}
use Rattle.tlb_kinds.specs.Refusals.{of_contents}
use Rattle.tlb_kinds.proofs.check.judge_contents.Given as goal

abbrev pub invariant-loop-index : goal.invariant-loop-index
invariant-loop-index l =
    of_contents (map constructor l.constructors) [] (map constructor l.constructors)
    ≡ of_contents (map constructor l.constructors) (map constructor (take l.index l.constructors)) (map constructor (drop l.index l.constructors))
