use Rattle.std.proofs.Common.{refl, false}
use Rattle.kind_terms.specs.Params.{is_literal}
use Rattle.kind_terms.specs.SumLaws.{of_sum}
use Rattle.kind_terms.proofs.shape.is_literal.Goals as goal

pub returns-in-Sum : goal.returns-in-Sum
returns-in-Sum c = of_sum is_literal false (λ a b. refl) _ _ _ _ c.in-Sum.is
