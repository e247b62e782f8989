use Rattle.std.proofs.Common.{refl, false}
use Rattle.kind_terms.specs.Forms.{is_of_numbers}
use Rattle.kind_terms.specs.SumLaws.{of_sum}
use Rattle.kind_terms.proofs.shape.is_of_numbers.Goals as goal

pub returns-in-Sum : goal.returns-in-Sum
returns-in-Sum c = of_sum is_of_numbers false (λ a b. refl) _ _ _ _ c.in-Sum.is
