use Rattle.std.proofs.Common.{◌≡◌, ◌∙◌, sym, subst, Option, Some, ◌↔◌, ℕ}
use Rattle.nat_solver.specs.Number.{OneUnknown}
use Rattle.nat_solver.specs.Plain.{joined}
use Rattle.nat_solver.specs.View.{expr}
use Rattle.nat_solver.proofs.Unknowns.{one_unknown}
use Rattle.nat_solver.proofs.unknown.sought.Goals as goal

pub returns : goal.returns
returns c v =
    let P : Option ℕ → Type 0 = λ o. (o ≡ Some v) ↔ OneUnknown (expr c.args.left.now) (expr c.args.right.now) v in
    subst P (sym c.unknown.ensures)
    (one_unknown c.join.result (expr c.args.left.now) (expr c.args.right.now)
    (c.join.ensures ∙ (λ i. joined (c.find_unknown.ensures i) (c.find_unknown-2.ensures i))) v)
