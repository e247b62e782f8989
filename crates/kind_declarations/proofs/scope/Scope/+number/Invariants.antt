use Rattle.std.proofs.Common.{◌≡◌, drop}
use Rattle.std.specs.Prelude.{option_map}
use Rattle.tlb_syntax.specs.View.{exprs}
use Rattle.kind_declarations.specs.Faults.{verdict}
use Rattle.kind_declarations.specs.Parts.{number_nodes}
use Rattle.kind_declarations.specs.Views.{item_context}
use Rattle.kind_declarations.proofs.scope.Scope.+number.Given as goal

abbrev pub invariant-judge_terms-loop-term : goal.invariant-judge_terms-loop-term
invariant-judge_terms-loop-term l =
    verdict (number_nodes (exprs (drop l.term-index l.terms)) (item_context l.self) (option_map (λ x. x.now) l.sought))
    ≡ verdict (number_nodes (exprs l.terms) (item_context l.self) (option_map (λ x. x.now) l.sought))
