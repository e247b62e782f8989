use Rattle.nat_solver.proofs.Following.{value_is_number}
use Rattle.nat_solver.proofs.laws.value_is_number.Goals as goal

pub returns : goal.returns
returns c = value_is_number
