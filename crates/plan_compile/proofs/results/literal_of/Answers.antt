use Rattle.std.proofs.Common.{refl}
use Rattle.kind_terms.specs.SumLaws.{of_sum}
use Rattle.schema_core.specs.CoreOf.{literal_of}
use Rattle.plan_compile.proofs.results.literal_of.Goals as goal

pub returns-in-Sum : goal.returns-in-Sum
returns-in-Sum c = of_sum literal_of 0 (λ x y. refl) c.args.e.now c.in-Sum.field-0 c.in-Sum.field-1 c.in-Sum.field-2 c.in-Sum.is
