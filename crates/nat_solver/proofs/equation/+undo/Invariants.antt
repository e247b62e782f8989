use Rattle.std.proofs.Common.{◌≡◌, ℕ, ◌∷◌, [], drop}
use Rattle.nat_solver.specs.Plain.{AllValued, cancelled_in, holder, unknowns_in}
use Rattle.nat_solver.specs.View.{exprs}
use Rattle.nat_solver.proofs.equation.+undo.Given as goal

abbrev pub invariant-number_for_term-loop-term : goal.invariant-number_for_term-loop-term
invariant-number_for_term-loop-term l = record {
  one : (v : ℕ) × (unknowns_in (exprs (drop l.term-index l.terms)) ≡ v ∷ []);
  counts : cancelled_in (exprs (drop l.term-index l.terms)) ≡ [];
  valued : AllValued (exprs (drop l.term-index l.terms)) l.env;
  first : holder (exprs (drop l.term-index l.terms)) ≡ holder (exprs l.terms);
}
