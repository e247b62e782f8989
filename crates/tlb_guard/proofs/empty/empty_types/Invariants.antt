use Rattle.std.proofs.Common.{take}
use Rattle.tlb_guard.specs.Numbering.{views}
use Rattle.tlb_guard.proofs.EmptyRules.{AreEmptyRules}
use Rattle.tlb_guard.proofs.empty.empty_types.Given as goal

abbrev pub invariant-loop-constructor : goal.invariant-loop-constructor
invariant-loop-constructor l = AreEmptyRules (views l.types) (take l.constructor-index l.types) l.rules
