use Rattle.std.proofs.Common.{refl}
use Rattle.std.specs.Prelude.{None}
use Rattle.kind_terms.specs.Forms.{out_name}
use Rattle.kind_terms.specs.SumLaws.{of_sum}
use Rattle.kind_terms.proofs.shape.out_name.Goals as goal

pub returns-in-Sum : goal.returns-in-Sum
returns-in-Sum c = of_sum out_name None (λ a b. refl) _ _ _ _ c.in-Sum.is
