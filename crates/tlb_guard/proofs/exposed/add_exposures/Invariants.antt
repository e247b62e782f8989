use Rattle.std.proofs.Common.{take}
use Rattle.tlb_syntax.specs.View.{constructor}
use Rattle.tlb_guard.specs.Numbering.{views}
use Rattle.tlb_guard.specs.Variables.{AddsRules, named_by}
use Rattle.tlb_guard.proofs.exposed.add_exposures.Given as goal

abbrev pub invariant-loop-exposure : goal.invariant-loop-exposure
invariant-loop-exposure l =
    AddsRules (views l.types) (named_by (views l.types) (constructor l.constructor) (take l.exposure-index l.exposures)) l.fn.rules l.rules
