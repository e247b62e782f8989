use Rattle.std.proofs.Common.{◌∙◌, refl, ap, sym}
use Rattle.kind_terms.specs.Types.{count}
use Rattle.kind_terms.specs.SumLaws.{of_sum}
use Rattle.kind_rules.specs.ExpectedKinds.{arguments}
use Rattle.kind_terms.specs.ViewLaws.{count_seen, seen_named}
use Rattle.kind_rules.proofs.rules.arg_count.Goals as goal

pub returns-in-Named : goal.returns-in-Named
returns-in-Named c =
    c.len.ensures ∙ count_seen c.in-Named.args ∙ sym (ap (λ v. count (arguments v)) (seen_named _ _ _ c.in-Named.is))

pub returns-in-Sum : goal.returns-in-Sum
returns-in-Sum c = of_sum (λ v. count (arguments v)) 0 (λ a b. refl) _ _ _ _ c.in-Sum.is
