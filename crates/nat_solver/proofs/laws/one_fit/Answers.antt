use Rattle.nat_solver.proofs.Following.{one_fit}
use Rattle.nat_solver.proofs.laws.one_fit.Goals as goal

pub returns : goal.returns
returns c = one_fit
