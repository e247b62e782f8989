use Rattle.std.proofs.Common.{◌≡◌, map, take}
use Rattle.tlb_syntax.specs.View.{expr, items}
use Rattle.kind_terms.specs.Params.{kind_of}
use Rattle.kind_terms.proofs.kind.kinds.Given as goal

abbrev pub invariant-loop-param : goal.invariant-loop-param
invariant-loop-param l = l.kinds ≡ map (λ e. kind_of (items l.constructor.items) (expr e)) (take l.param-index l.constructor.params)
