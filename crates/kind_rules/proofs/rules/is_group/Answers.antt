use Rattle.std.proofs.Common.{refl, false}
use Rattle.kind_terms.specs.SumLaws.{of_sum}
use Rattle.kind_rules.specs.Records.{is_group}
use Rattle.kind_rules.proofs.rules.is_group.Goals as goal

pub returns-in-Sum : goal.returns-in-Sum
returns-in-Sum c = of_sum is_group false (λ a b. refl) _ _ _ _ c.in-Sum.is
