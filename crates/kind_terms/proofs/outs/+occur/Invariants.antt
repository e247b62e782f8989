use Rattle.std.proofs.Common.{◌≡◌, ◌-◌, ◌^◌, min, take}
use Rattle.tlb_syntax.specs.View.{exprs}
use Rattle.kind_terms.specs.Forms.{parts_of_all}
use Rattle.kind_terms.specs.Sought.{uses}
use Rattle.kind_terms.proofs.outs.+occur.Given as goal

abbrev pub invariant-occurrences_in-loop-e : goal.invariant-occurrences_in-loop-e
invariant-occurrences_in-loop-e l = l.count ≡ min (2 ^ 64 - 1) (uses l.name (parts_of_all (exprs (take l.e-index l.es))))
