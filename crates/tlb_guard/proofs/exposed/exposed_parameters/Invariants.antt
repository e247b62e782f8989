use Rattle.std.proofs.Common.{take, map, []}
use Rattle.tlb_guard.specs.Numbering.{views}
use Rattle.tlb_guard.specs.Views.{exposed_in}
use Rattle.tlb_guard.specs.Variables.{AddsRules, named_at}
use Rattle.tlb_guard.proofs.exposed.exposed_parameters.Given as goal

abbrev pub invariant-loop-number : goal.invariant-loop-number
invariant-loop-number l =
    AddsRules (views l.types)
    (λ t p. named_at p (views (take l.number l.types)) (map (exposed_in (views l.types) t) (take l.number l.exposures))) [] l.rules
