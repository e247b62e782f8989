use Rattle.std.proofs.Common.{ap, sym, ◌∙◌, map}
use Rattle.tlb_syntax.specs.View.{constructor}
use Rattle.kind_declarations.specs.declared.scope.Scope.{Scope as State}
use Rattle.kind_terms.specs.Views.{part_by}
use Rattle.kind_declarations.specs.Views.{words}
use Rattle.kind_declarations.proofs.ConstructorNodes.{all_judged}
use Rattle.kind_declarations.proofs.records.judge_record.Goals as goal

pub returns-clause-judged : goal.returns-clause-judged
returns-clause-judged c =
    let new = c.new-scope.ensures in
    all_judged c.new-scope.result (map constructor c.args.types.now) (constructor c.args.constructor.now) _ _ c.judge_all-judged.result
    (ap (λ (s : State). map constructor s.types.now) new) (ap (λ (s : State). s.path) new) (ap (λ (s : State). s.bindings) new)
    (ap (λ (s : State). s.around) new) (ap (λ (s : State). words s.inputs.now) new ∙ ap words c.as_slice.ensures ∙ c.in_ok-inputs.ensures)
    (ap (λ (s : State). s.known) new)
    (ap (λ (s : State). s.fields) new) (sym (ap (map part_by) c.swap.ensures.x_after)) c.judge_all-judged.ensures.judged
