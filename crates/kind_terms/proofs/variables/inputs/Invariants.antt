use Rattle.std.proofs.Common.{◌≡◌, ◌++◌, map, drop}
use Rattle.tlb_syntax.specs.View.{exprs}
use Rattle.kind_terms.specs.Params.{inputs}
use Rattle.kind_terms.proofs.variables.inputs.Given as goal

abbrev pub invariant-loop-param : goal.invariant-loop-param
invariant-loop-param l =
    map (λ n. n.now) l.inputs ++ inputs (exprs (drop l.param-index l.param-items)) ≡ inputs (exprs l.constructor.params)
