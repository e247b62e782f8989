use Rattle.nat_solver.proofs.Solving.{value_sum}
use Rattle.nat_solver.proofs.laws.sum_is_total.Goals as goal

pub returns : goal.returns
returns c = value_sum
