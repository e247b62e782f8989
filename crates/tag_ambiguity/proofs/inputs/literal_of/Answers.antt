use Rattle.std.proofs.Common.{refl, zero}
use Rattle.kind_terms.specs.SumLaws.{of_sum}
use Rattle.schema_core.specs.CoreOf.{literal_of}
use Rattle.tag_ambiguity.proofs.inputs.literal_of.Goals as goal

pub returns-in-Sum : goal.returns-in-Sum
returns-in-Sum c = of_sum literal_of zero (λ a b. refl) _ _ _ _ c.in-Sum.is
