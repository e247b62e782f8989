use Rattle.std.proofs.Common.{refl, sym, ap, ◌∙◌, ◌++◌, []}
use Rattle.std.proofs.lemmas.List.{same_from_push}
use Rattle.nat_solver.specs.Number.{unknowns}
use Rattle.nat_solver.specs.View.{expr}
use Rattle.cell_tests.proofs.numbers.evaluated.Goals as goal

-- There is one unknown on both sides, and one on the right, so there is none on the left.
pub eval-requires : goal.eval-requires
eval-requires c =
    let left = unknowns (expr c.args.e.now) in
    let one = ((c.in-Some.ensures c.in-Some.field-0).0 refl).only in
    (same_from_push left [] 9 c.in-Some.field-0 (ap (λ right. left ++ right) (sym c.requires) ∙ one)).0
