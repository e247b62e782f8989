use Rattle.std.proofs.Common.{◌≡◌, ◌+◌, drop}
use Rattle.nat_solver.specs.Plain.{AllValued, known_total}
use Rattle.nat_solver.specs.View.{exprs}
use Rattle.nat_solver.proofs.equation.less_known.Given as goal

abbrev pub invariant-loop-term : goal.invariant-loop-term
invariant-loop-term l = record {
  valued : AllValued (exprs (drop l.term-index l.terms)) l.env;
  left : known_total (exprs l.terms) l.env + l.rest ≡ known_total (exprs (drop l.term-index l.terms)) l.env + l.n;
}
