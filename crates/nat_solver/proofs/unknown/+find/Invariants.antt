use Rattle.std.proofs.Common.{◌≡◌, drop}
use Rattle.nat_solver.specs.Plain.{occurrence, occurrence_rest}
use Rattle.nat_solver.specs.Number.{sum_of}
use Rattle.nat_solver.specs.View.{exprs}
use Rattle.nat_solver.proofs.unknown.+find.Given as goal

abbrev pub invariant-find_in_sum-loop-term : goal.invariant-find_in_sum-loop-term
invariant-find_in_sum-loop-term l = occurrence_rest l.found (exprs (drop l.term-index l.terms)) ≡ occurrence (sum_of (exprs l.terms))
