use Rattle.std.proofs.Common.{◌≡◌, take}
use Rattle.tlb_syntax.specs.View.{exprs}
use Rattle.kind_terms.specs.Forms.{parts_of_all}
use Rattle.kind_terms.specs.Outs.{outs_by, outs_of}
use Rattle.kind_terms.proofs.outs.+outs.Given as goal

abbrev pub invariant-outs_in_all-loop-e : goal.invariant-outs_in_all-loop-e
invariant-outs_in_all-loop-e l = outs_by l.outs ≡ outs_of (parts_of_all (exprs (take l.e-index l.es)))
