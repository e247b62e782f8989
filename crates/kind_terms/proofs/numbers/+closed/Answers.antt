use Rattle.std.proofs.Common.{◌≡◌, ◌∙◌, ◌-◌, ◌^◌, ap, arith, drop, map, min, sym, [], List}
use Rattle.std.proofs.lemmas.Grind.{common_steps}
use Rattle.std.specs.Prelude.{Some}
use Rattle.std.specs.List.{fold}
use Rattle.tlb_syntax.specs.declared.tree.Expr.{Expr}
use Rattle.tlb_syntax.specs.View.{expr}
use Rattle.kind_terms.proofs.Capped.{capped, closed_star, closed_sum, no_first, no_rest, no_second, no_value, one_more_closed, total_from_zero, with_closed}
use Rattle.kind_terms.proofs.numbers.+closed.Goals as goal

pub closed-returns-in_ok-closed-in-Star-2 : goal.closed-returns-in_ok-closed-in-Star-2
closed-returns-in_ok-closed-in-Star-2 t c =
    closed_star _ _ _ _ _ _ _ _ c.in-Star.is c.get-in-Star.ensures c.get-in-Star-2.ensures c.in_ok-closed-in-Star.ensures c.in_ok-closed-in-Star-2.ensures c.saturating_mul.ensures

pub closed-returns-in_ok-closed_total-in-Sum : goal.closed-returns-in_ok-closed_total-in-Sum
closed-returns-in_ok-closed_total-in-Sum t c =
    closed_sum _ _ _ _ _ _ _ _ _ _ _ _ c.in-Sum.is c.get.ensures c.get-in-Sum.ensures c.as_slice.ensures
    c.in_ok-closed-in-Sum.ensures c.in_ok-closed-in-Sum-2.ensures c.in_ok-closed_total-in-Sum.ensures
    c.saturating_add-two.ensures c.saturating_add.ensures

pub closed-returns-in_err-closed-in-Sum : goal.closed-returns-in_err-closed-in-Sum
closed-returns-in_err-closed-in-Sum t c =
    c.from_residual.ensures ∙ no_first _ _ _ _ _ c.in-Sum.is c.get.ensures c.in_err-closed-in-Sum.ensures

pub closed-returns-in_err-closed-in-Sum-2 : goal.closed-returns-in_err-closed-in-Sum-2
closed-returns-in_err-closed-in-Sum-2 t c =
    c.from_residual-in_err-closed-in-Sum-2.ensures ∙ no_second _ _ _ _ _ c.in-Sum.is c.get-in-Sum.ensures c.in_err-closed-in-Sum-2.ensures

pub closed-returns-in_err-closed_total-in-Sum : goal.closed-returns-in_err-closed_total-in-Sum
closed-returns-in_err-closed_total-in-Sum t c =
    c.from_residual-in_err-closed_total-in-Sum.ensures ∙ no_rest _ _ _ _ _ c.in-Sum.is c.as_slice.ensures c.in_err-closed_total-in-Sum.ensures

pub closed_total-loop-term-init : goal.closed_total-loop-term-init
closed_total-loop-term-init t c = record { within = omega arith; same = ap capped (total_from_zero (map expr c.args.terms.now)) }

pub closed_total-returns-in_err-closed : goal.closed_total-returns-in_err-closed
closed_total-returns-in_err-closed t c =
    c.from_residual.ensures
    ∙ no_value c.args.terms.now c.loop-term.term-index c.term-item.result c.loop-term.total c.loop-term-test.true c.term-item.is c.in_err-closed.ensures
    ∙ c.loop-term.invariant.same

pub closed_total-loop-term-preserved : goal.closed_total-loop-term-preserved
closed_total-loop-term-preserved t c = record {
  within = omega arith;
  same = sym (one_more_closed _ _ _ _ _ _ c.loop-term-test.true c.term-item.is c.in_ok-closed.ensures c.saturating_add-total.ensures) ∙ c.loop-term.invariant.same;
}

pub closed_total-returns : goal.closed_total-returns
closed_total-returns t c =
    let none : drop c.loop-term.term-index c.args.terms.now ≡ [] = grind (arith, common_steps) in
    let within : c.loop-term.total ≡ min (2 ^ 64 - 1) c.loop-term.total = omega (arith, c.loop-term.invariant.within) in
    ap Some within ∙ ap (λ (us : List Expr). capped (fold with_closed (Some c.loop-term.total) (map expr us))) (sym none) ∙ c.loop-term.invariant.same
