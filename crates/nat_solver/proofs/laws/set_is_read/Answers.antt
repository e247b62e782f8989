use Rattle.nat_solver.proofs.Following.{set_is_read}
use Rattle.nat_solver.proofs.laws.set_is_read.Goals as goal

pub returns : goal.returns
returns c = set_is_read
