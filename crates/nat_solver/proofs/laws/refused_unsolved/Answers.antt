use Rattle.nat_solver.specs.SolutionLaws.{refused_unsolved}
use Rattle.nat_solver.proofs.laws.refused_unsolved.Goals as goal

pub returns : goal.returns
returns c = refused_unsolved
