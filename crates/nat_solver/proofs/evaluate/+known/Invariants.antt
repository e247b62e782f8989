use Rattle.std.proofs.Common.{◌≡◌, drop, Ok}
use Rattle.nat_solver.specs.Plain.{known_number, known_rest}
use Rattle.nat_solver.specs.Number.{sum_of}
use Rattle.nat_solver.specs.View.{exprs}
use Rattle.nat_solver.proofs.evaluate.+known.Given as goal

abbrev pub invariant-known_sum-loop-term : goal.invariant-known_sum-loop-term
invariant-known_sum-loop-term l = known_rest (Ok l.sum) (exprs (drop l.term-index l.terms)) l.env ≡ known_number (sum_of (exprs l.terms)) l.env
