use Rattle.std.proofs.Common.{ap, sym, ◌∙◌}
use Rattle.nat_solver.specs.View.{expr as number_view}
use Rattle.schema_core.specs.Numbers.{unknown_by}
use Rattle.plan_compile.proofs.Terms.{sought_is}
use Rattle.plan_compile.proofs.numbers.unknown.Goals as goal

pub returns-in-Eq : goal.returns-in-Eq
returns-in-Eq c =
    sought_is c.sought.result (number_view c.args.left.now) (number_view c.args.right.now) c.sought.ensures
    ∙ sym (ap (λ z. unknown_by z (number_view c.args.left.now) (number_view c.args.right.now)) c.in-Eq.is)
