use Rattle.nat_solver.proofs.Following.{one_solution}
use Rattle.nat_solver.proofs.laws.one_solution.Goals as goal

pub returns : goal.returns
returns c = one_solution
