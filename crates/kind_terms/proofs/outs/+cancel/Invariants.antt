use Rattle.std.proofs.Common.{◌≡◌, drop}
use Rattle.std.specs.List.{list_any}
use Rattle.tlb_syntax.specs.View.{exprs}
use Rattle.kind_terms.specs.Forms.{parts_of_all}
use Rattle.kind_terms.specs.Sought.{cancels}
use Rattle.kind_terms.proofs.outs.+cancel.Given as goal

abbrev pub invariant-cancels_in-loop-e : goal.invariant-cancels_in-loop-e
invariant-cancels_in-loop-e l =
    list_any cancels (parts_of_all (exprs (drop l.e-index l.es))) ≡ list_any cancels (parts_of_all (exprs l.es))
