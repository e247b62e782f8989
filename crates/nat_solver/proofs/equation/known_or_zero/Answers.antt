use Rattle.nat_solver.specs.View.{expr}
use Rattle.nat_solver.proofs.Solving.{part_refused}
use Rattle.nat_solver.proofs.equation.known_or_zero.Goals as goal

pub unreachable-requires : goal.unreachable-requires
unreachable-requires c = part_refused (expr c.args.e.now) c.args.env.now c.in-Err.field-0 c.requires c.in-Err.ensures
