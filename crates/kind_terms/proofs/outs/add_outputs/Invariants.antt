use Rattle.std.proofs.Common.{◌≡◌, ◌++◌, drop, length, map, take}
use Rattle.tlb_syntax.specs.View.{exprs}
use Rattle.kind_terms.specs.Scopes.{all_given_out}
use Rattle.kind_terms.proofs.outs.add_outputs.Given as goal

abbrev pub invariant-loop-arg : goal.invariant-loop-arg
invariant-loop-arg l = record {
  names : map (λ x. x.now) l.known ++ all_given_out l.rest (exprs (drop l.arg-index l.args)) ≡ map (λ x. x.now) l.initial.known ++ all_given_out l.kinds (exprs l.args);
  kept : take (length l.initial.known) l.known ≡ l.initial.known;
}
