use Rattle.std.proofs.Common.{◌≢◌, [], refl, arith}
use Rattle.std.specs.Prelude.{None}
use Rattle.std.proofs.lemmas.Grind.{common_steps}
use Rattle.kind_terms.specs.Params.{bare_name}
use Rattle.kind_terms.specs.SumLaws.{applied, of_sum}
use Rattle.kind_terms.proofs.shape.bare_name.Goals as goal

pub returns-else-is_empty : goal.returns-else-is_empty
returns-else-is_empty c =
    let ne : c.in-Named.args ≢ [] = λ e. grind (arith, common_steps, c.is_empty.ensures, c.if-is_empty.false, e) in
    applied _ _ _ c.in-Named.is ne

pub returns-in-Sum : goal.returns-in-Sum
returns-in-Sum c = of_sum bare_name None (λ a b. refl) _ _ _ _ c.in-Sum.is
