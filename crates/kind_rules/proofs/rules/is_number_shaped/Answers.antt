use Rattle.std.proofs.Common.{refl, true}
use Rattle.kind_terms.specs.SumLaws.{of_sum}
use Rattle.kind_rules.specs.Numbers.{is_number_shaped}
use Rattle.kind_rules.proofs.rules.is_number_shaped.Goals as goal

pub returns-in-Sum : goal.returns-in-Sum
returns-in-Sum c = of_sum is_number_shaped true (λ a b. refl) _ _ _ _ c.in-Sum.is
