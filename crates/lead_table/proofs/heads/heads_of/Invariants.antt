use Rattle.std.proofs.Common.{take}
use Rattle.tlb_guard.specs.Numbering.{views}
use Rattle.lead_table.specs.Heads.{AreHeads}
use Rattle.lead_table.proofs.heads.heads_of.Given as goal

abbrev pub invariant-loop-constructor : goal.invariant-loop-constructor
invariant-loop-constructor l = AreHeads (views l.types) (take l.constructor-index (views l.types)) l.heads
