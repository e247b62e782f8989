use Rattle.std.proofs.Common.{◌∙◌, ◌++◌, [], ap, map, refl, sym}
use Rattle.std.proofs.lemmas.List.{append-nil}
use Rattle.tlb_syntax.specs.View.{constructor}
use Rattle.kind_terms.specs.Scopes.{outputs_of}
use Rattle.kind_terms.specs.SumLaws.{of_sum}
use Rattle.kind_terms.proofs.outs.add_outputs_of.Goals as goal

pub returns-in-Sum-clause-names : goal.returns-in-Sum-clause-names
returns-in-Sum-clause-names c =
    sym (append-nil (map (λ x. x.now) c.args.known.now))
    ∙ ap (λ xs. map (λ x. x.now) c.args.known.now ++ xs)
    (of_sum (outputs_of (map constructor c.args.types.now)) [] (λ a b. refl) _ _ _ _ c.in-Sum.is)
