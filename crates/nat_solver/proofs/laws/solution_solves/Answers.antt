use Rattle.nat_solver.specs.SolutionLaws.{solution_solves, solution_complete}
use Rattle.nat_solver.proofs.laws.solution_solves.Goals as goal

pub returns : goal.returns
returns c = λ left right env v x one.
    (solution_solves left right env x, solution_complete left right env v x one)
