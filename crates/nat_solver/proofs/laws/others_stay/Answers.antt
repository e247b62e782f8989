use Rattle.nat_solver.proofs.Following.{others_stay}
use Rattle.nat_solver.proofs.laws.others_stay.Goals as goal

pub returns : goal.returns
returns c = others_stay
