use Rattle.std.proofs.Common.{◌≡◌, ◌+◌, length, map, take}
use Rattle.tlb_syntax.specs.View.{constructor}
use Rattle.kind_terms.specs.Dictionaries.{of_type}
use Rattle.tlb_kinds.proofs.places.number_after.Given as goal

abbrev pub invariant-loop-constructor : goal.invariant-loop-constructor
invariant-loop-constructor l = l.number ≡ length (of_type (map constructor (take l.constructor-index l.before)) l.type_name) + 1
