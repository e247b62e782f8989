use Rattle.std.proofs.Common.{refl}
use Rattle.kind_declarations.proofs.NumberNodes.{leaf_nodes, star_nodes, terms_end, terms_passed, terms_refused}
use Rattle.std.specs.Prelude.{Err, map, option_map}
use Rattle.kind_terms.specs.Views.{part_by}
use Rattle.kind_declarations.specs.Views.{item_context}
use Rattle.kind_declarations.proofs.SumNodes.{first_refused, second_refused, sum_past, sum_judged}
use Rattle.kind_declarations.proofs.Verdicts.{judges_err, passed_then, refused_then}
use Rattle.kind_declarations.proofs.scope.Scope.+number.Goals as goal

pub judge_number-returns-in-Lit : goal.judge_number-returns-in-Lit
judge_number-returns-in-Lit t c = rw (leaf_nodes _ _ _ _ c.in-Lit.is) c.judge_number_alone-in-Lit.ensures

pub judge_number-returns-in_err-judge_number_alone-in-Star : goal.judge_number-returns-in_err-judge_number_alone-in-Star
judge_number-returns-in_err-judge_number_alone-in-Star t c =
    rw (star_nodes _ _ _ _ _ _ _ _ c.in-Star.is refl refl)
    (judges_err _ _ _ _ c.from_residual-in_err-judge_number_alone-in-Star.ensures.1 (refused_then _ _ _ _ c.in_err-judge_number_alone-in-Star.ensures))

pub judge_number-returns-in_err-judge_number-in-Star : goal.judge_number-returns-in_err-judge_number-in-Star
judge_number-returns-in_err-judge_number-in-Star t c =
    rw (star_nodes _ _ _ _ _ _ _ _ c.in-Star.is c.get-in-Star.ensures refl)
    (judges_err _ _ _ _ c.from_residual-in_err-judge_number-in-Star.ensures.1
    (passed_then _ _ _ (Err _) c.in_ok-judge_number_alone-in-Star.ensures (refused_then _ _ _ _ c.in_err-judge_number-in-Star.ensures)))

pub judge_number-returns-in_ok-judge_number-in-Star : goal.judge_number-returns-in_ok-judge_number-in-Star
judge_number-returns-in_ok-judge_number-in-Star t c =
    rw (star_nodes _ _ _ _ _ _ _ _ c.in-Star.is c.get-in-Star.ensures c.get-in-Star-2.ensures)
    (passed_then _ _ _ _ c.in_ok-judge_number_alone-in-Star.ensures
    (passed_then _ _ _ _ c.in_ok-judge_number-in-Star.ensures c.judge_number-in-Star-2.ensures))

pub judge_number-returns-then-is_sum_beyond : goal.judge_number-returns-then-is_sum_beyond
judge_number-returns-then-is_sum_beyond t c =
    sum_past _ _ _ _ _ _ _ _ _ _ _ c.in-Sum.is c.get.ensures c.get-in-Sum.ensures c.as_slice.ensures c.is_sum_beyond.ensures c.if-is_sum_beyond.true

pub judge_number-returns-in_err-judge_number-in-Sum : goal.judge_number-returns-in_err-judge_number-in-Sum
judge_number-returns-in_err-judge_number-in-Sum t c =
    judges_err _ _ _ _ c.from_residual.ensures.1
    (first_refused (item_context c.args.self.now) (option_map (λ x. x.now) c.args.sought) c.args.most _ _ _ _ _ _ _ _ _ (map part_by c.args.self.now.path) _
    c.in-Sum.is c.get.ensures c.get-in-Sum.ensures c.as_slice.ensures c.is_sum_beyond.ensures
    c.if-is_sum_beyond.false c.get-in-Sum-2.ensures c.in_err-judge_number-in-Sum.ensures)

pub judge_number-returns-in_err-judge_number-in-Sum-2 : goal.judge_number-returns-in_err-judge_number-in-Sum-2
judge_number-returns-in_err-judge_number-in-Sum-2 t c =
    judges_err _ _ _ _ c.from_residual-in_err-judge_number-in-Sum-2.ensures.1
    (second_refused (item_context c.args.self.now) (option_map (λ x. x.now) c.args.sought) c.args.most _ _ _ _ _ _ _ _ _ _ (map part_by c.args.self.now.path) _
    c.in-Sum.is c.get.ensures c.get-in-Sum.ensures c.as_slice.ensures c.is_sum_beyond.ensures
    c.if-is_sum_beyond.false c.get-in-Sum-2.ensures c.get-in-Sum-3.ensures
    c.in_ok-judge_number-in-Sum.ensures c.in_err-judge_number-in-Sum-2.ensures)

pub judge_number-returns-in_ok-judge_number-in-Sum-2 : goal.judge_number-returns-in_ok-judge_number-in-Sum-2
judge_number-returns-in_ok-judge_number-in-Sum-2 t c =
    sum_judged _ _ _ _ _ _ _ _ _ _ _ _ _ _ _ _ c.in-Sum.is c.get.ensures c.get-in-Sum.ensures c.as_slice.ensures c.is_sum_beyond.ensures
    c.if-is_sum_beyond.false c.get-in-Sum-2.ensures c.get-in-Sum-3.ensures c.as_slice-in-Sum.ensures
    (passed_then _ _ _ _ c.in_ok-judge_number-in-Sum.ensures
    (passed_then _ _ _ _ c.in_ok-judge_number-in-Sum-2.ensures c.judge_terms.ensures))

pub judge_terms-returns-in_err-judge_number : goal.judge_terms-returns-in_err-judge_number
judge_terms-returns-in_err-judge_number t c =
    judges_err _ _ _ _ c.from_residual.ensures.1
    (terms_refused _ _ _ _ c.loop-term.invariant _ _ _ c.loop-term-test.true c.term-item.is c.in_err-judge_number.ensures)

pub judge_terms-loop-term-preserved : goal.judge_terms-loop-term-preserved
judge_terms-loop-term-preserved t c =
    terms_passed _ _ _ _ c.loop-term.invariant _ c.loop-term-test.true c.term-item.is c.in_ok-judge_number.ensures

pub judge_terms-returns : goal.judge_terms-returns
judge_terms-returns t c = terms_end _ _ _ _ c.loop-term.invariant c.loop-term-test.false
