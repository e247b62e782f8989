use Rattle.std.proofs.Common.{refl, false}
use Rattle.kind_terms.specs.SumLaws.{of_sum}
use Rattle.kind_rules.specs.Numbers.{is_product}
use Rattle.kind_declarations.specs.Views.{scope_by}
use Rattle.kind_declarations.proofs.scope.Scope.is_product.Goals as goal

pub returns-in-Sum : goal.returns-in-Sum
returns-in-Sum c = of_sum (is_product (scope_by c.args.self.now)) false (λ a b. refl) _ _ _ _ c.in-Sum.is
