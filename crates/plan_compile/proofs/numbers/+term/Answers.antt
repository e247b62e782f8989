use Rattle.std.proofs.Common.{◌++◌, ap, map, ◌∙◌}
use Rattle.nat_solver.specs.View.{expr as number_view}
use Rattle.tlb_syntax.specs.View.{expr as expr_view}
use Rattle.plan_compile.specs.Terms.{term_of}
use Rattle.plan_compile.specs.Views.{names_by}
use Rattle.plan_compile.proofs.Terms.{applied_term, sum_is, two_terms}
use Rattle.plan_compile.proofs.numbers.+term.Goals as goal

pub term-returns-else-is_empty : goal.term-returns-else-is_empty
term-returns-else-is_empty t c =
    c.nothing.ensures ∙ applied_term c.args.is_side (names_by c.args.names.now) c.args.e.now c.in-Named.name c.in-Named.args c.is_empty.result c.in-Named.is c.is_empty.ensures c.if-is_empty.false

pub term-returns-in_ok-add_terms-in-Sum : goal.term-returns-in_ok-add_terms-in-Sum
term-returns-in_ok-add_terms-in-Sum t c =
    sum_is c.args.is_side (names_by c.args.names.now) c.args.e.now c.in-Sum.first c.in-Sum.second c.in-Sum.more c.push-in-Sum.new.self c.add_terms.new.sum c.in-Sum.is
    (two_terms c.new-sum.result c.push.new.self c.push-in-Sum.new.self c.in_ok-term-in-Sum.field-0 c.in_ok-term-in-Sum-2.field-0 _ _ c.new-sum.ensures c.in_ok-push-in-Sum.ensures.ok c.in_ok-push-in-Sum-2.ensures.ok
    (c.in_ok-term-in-Sum.ensures ∙ ap (λ z. term_of c.args.is_side (names_by c.args.names.now) (expr_view z)) c.get.ensures)
    (c.in_ok-term-in-Sum-2.ensures ∙ ap (λ z. term_of c.args.is_side (names_by c.args.names.now) (expr_view z)) c.get-in-Sum.ensures))
    (c.in_ok-add_terms-in-Sum.ensures ∙ ap (λ z. map number_view c.push-in-Sum.new.self ++ map (term_of c.args.is_side (names_by c.args.names.now)) (map expr_view z)) c.as_slice.ensures)
