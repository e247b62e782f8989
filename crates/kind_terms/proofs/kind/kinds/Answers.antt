use Rattle.std.proofs.Common.{◌≡◌, take, arith, ◌∙◌}
use Rattle.std.proofs.lemmas.Grind.{common_steps}
use Rattle.tlb_syntax.specs.View.{items}
use Rattle.kind_terms.proofs.ParamKinds.{kinds_of_exprs_each}
use Rattle.kind_terms.proofs.kind.kinds.Goals as goal

pub returns : goal.returns
returns c =
    let all : take c.loop-param.param-index c.args.constructor.now.params ≡ c.args.constructor.now.params = grind (arith, common_steps) in
    rw all at c.loop-param.invariant ∙ kinds_of_exprs_each (items c.args.constructor.now.items) c.args.constructor.now.params
