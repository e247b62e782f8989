use Rattle.std.proofs.Common.{refl}
use Rattle.std.specs.Prelude.{None}
use Rattle.kind_terms.specs.SumLaws.{of_sum}
use Rattle.tlb_guard.specs.Empty.{literal}
use Rattle.tlb_guard.proofs.scope.literal.Goals as goal

pub returns-in-Sum : goal.returns-in-Sum
returns-in-Sum c = of_sum literal None (λ a b. refl) _ _ _ _ c.in-Sum.is
