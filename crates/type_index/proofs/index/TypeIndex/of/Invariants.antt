use Rattle.std.proofs.Common.{map, take}
use Rattle.tlb_syntax.specs.View.{constructor}
use Rattle.type_index.specs.Index.{AreEntries}
use Rattle.type_index.proofs.index.TypeIndex.of.Given as goal

abbrev pub invariant-loop-number : goal.invariant-loop-number
invariant-loop-number l = AreEntries l.by_name (map constructor (take l.number l.constructors))
