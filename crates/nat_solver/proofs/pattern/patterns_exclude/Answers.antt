use Rattle.std.proofs.Common.{◌∙◌, max}
use Rattle.std.specs.Option.{is_some}
use Rattle.nat_solver.proofs.Patterns.{excluded_when, none_then, none_else}
use Rattle.nat_solver.proofs.pattern.patterns_exclude.Goals as goal

pub returns-then-is_none : goal.returns-then-is_none
returns-then-is_none c =
    excluded_when c.args.p.now c.args.q.now c.max-shared.result (c.max-shared.ensures ∙ (λ i. max (c.least_number.ensures i) (c.least_number-2.ensures i))) c.max-shared.type_inv c.pattern_fit-left.result c.pattern_fit-right.result
    c.pattern_fit-left.ensures c.pattern_fit-right.ensures c.is_none.result
    (none_then (is_some c.pattern_fit-left.result) (is_some c.pattern_fit-right.result) c.is_none.result c.is_none.ensures c.if-is_none.true)

pub returns-else-is_none : goal.returns-else-is_none
returns-else-is_none c =
    excluded_when c.args.p.now c.args.q.now c.max-shared.result (c.max-shared.ensures ∙ (λ i. max (c.least_number.ensures i) (c.least_number-2.ensures i))) c.max-shared.type_inv c.pattern_fit-left.result c.pattern_fit-right.result
    c.pattern_fit-left.ensures c.pattern_fit-right.ensures c.is_none-else-is_none.result
    (none_else (is_some c.pattern_fit-left.result) (is_some c.pattern_fit-right.result) c.is_none.result c.is_none-else-is_none.result c.is_none.ensures c.if-is_none.false c.is_none-else-is_none.ensures)
