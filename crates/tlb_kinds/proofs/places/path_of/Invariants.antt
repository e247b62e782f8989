use Rattle.std.proofs.Common.{◌≡◌, map, take}
use Rattle.kind_terms.specs.Views.{part_by}
use Rattle.tlb_kinds.proofs.places.path_of.Given as goal

abbrev pub invariant-loop-shown : goal.invariant-loop-shown
invariant-loop-shown l = l.parts ≡ map part_by (take l.shown-index l.path)
