use Rattle.tlb_syntax.specs.View.{constructor}
use Rattle.tlb_guard.specs.Numbering.{views}
use Rattle.tlb_guard.specs.Variables.{AddsRules, called_among}
use Rattle.tlb_guard.proofs.exposed.add_called.Given as goal

abbrev pub invariant-loop-place : goal.invariant-loop-place
invariant-loop-place l =
    AddsRules (views l.types) (called_among (constructor l.constructor) l.variable l.through l.place) l.fn.rules l.rules
