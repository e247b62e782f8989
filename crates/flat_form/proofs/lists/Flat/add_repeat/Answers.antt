use Rattle.std.proofs.Common.{◌≡◌, subst, IfOk}
use Rattle.nat_solver.specs.Number.{Expr}
use Rattle.nat_solver.specs.View.{expr}
use Rattle.core_form.specs.Core.{Ty}
use Rattle.core_form.specs.Core as core
use Rattle.flat_form.specs.Stands.{type_at}
use Rattle.flat_form.specs.GrowthLaws.{type_stays}
use Rattle.flat_form.proofs.lists.Flat.add_repeat.Goals as goal

pub returns-clause-stands : goal.returns-clause-stands
returns-clause-stands c =
    let P : Expr → Type 0 = λ e. IfOk c.add_type.result (λ t. type_at c.add_type.new.self t ≡ core.repeat e (type_at c.add_expression.new.self c.args.inner)) in
    let Q : Ty → Type 0 = λ i. IfOk c.add_type.result (λ t. type_at c.add_type.new.self t ≡ core.repeat (expr c.args.number) i) in
    subst Q (type_stays c.args.self.now c.add_expression.new.self c.args.inner c.requires.flat c.in_ok-number.ensures.adds c.requires.inner) (subst P c.in_ok-number.ensures.stands c.add_type.ensures.stands)
