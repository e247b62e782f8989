use Rattle.std.proofs.Common.{refl}
use Rattle.kind_terms.specs.SumLaws.{of_sum}
use Rattle.type_closing.specs.Closing.{literal}
use Rattle.type_closing.proofs.close.literal.Goals as goal

pub returns-in-Sum : goal.returns-in-Sum
returns-in-Sum c = of_sum literal 0 (λ a b. refl) _ _ _ _ c.in-Sum.is
