use Rattle.std.proofs.Common.{ap, ◌∙◌}
use Rattle.nat_solver.specs.Number.{unknowns}
use Rattle.tlb_syntax.specs.View.{expr as expr_view}
use Rattle.schema_core.specs.PlainLaws.{plain_number}
use Rattle.plan_compile.specs.Views.{names_by}
use Rattle.plan_compile.proofs.Answered.{if_ok}
use Rattle.plan_compile.proofs.Terms.{term_is_number}
use Rattle.plan_compile.proofs.numbers.number.Goals as goal

pub returns-clause-is : goal.returns-clause-is
returns-clause-is c =
    if_ok c.term.result (λ n e. e ∙ term_is_number (names_by c.args.names.now) (expr_view c.args.e.now)) c.term.ensures

pub returns-clause-plain : goal.returns-clause-plain
returns-clause-plain c =
    if_ok c.term.result (λ n e. ap unknowns (e ∙ term_is_number (names_by c.args.names.now) (expr_view c.args.e.now)) ∙ plain_number (names_by c.args.names.now) (expr_view c.args.e.now)) c.term.ensures
