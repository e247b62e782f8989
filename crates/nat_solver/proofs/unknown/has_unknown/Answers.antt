use Rattle.std.proofs.Common.{◌∙◌, ap}
use Rattle.nat_solver.specs.Plain.{occurs}
use Rattle.nat_solver.specs.View.{expr}
use Rattle.nat_solver.proofs.Unknowns.{occurs_where}
use Rattle.nat_solver.proofs.unknown.has_unknown.Goals as goal

pub returns : goal.returns
returns c = c.occurs.ensures ∙ ap occurs c.find_unknown.ensures ∙ occurs_where (expr c.args.e.now)
