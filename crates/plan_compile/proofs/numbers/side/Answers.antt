use Rattle.std.proofs.Common.{◌∙◌}
use Rattle.tlb_syntax.specs.View.{expr as expr_view}
use Rattle.plan_compile.specs.Views.{names_by}
use Rattle.plan_compile.proofs.Answered.{if_ok}
use Rattle.plan_compile.proofs.Terms.{term_is_side}
use Rattle.plan_compile.proofs.numbers.side.Goals as goal

pub returns : goal.returns
returns c = if_ok c.term.result (λ n e. e ∙ term_is_side (names_by c.args.names.now) (expr_view c.args.e.now)) c.term.ensures
