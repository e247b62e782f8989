use Rattle.std.proofs.Common.{◌≡◌, ℕ, length, List, Some, Bool}
use Rattle.std.specs.Prelude.{slice_get}
use Rattle.tlb_guard.proofs.edges.no_searches.Given as goal

abbrev pub invariant-loop-end : goal.invariant-loop-end
invariant-loop-end l = record {
  size : length l.searches.items ≡ l._end;
  none : (end : ℕ) (found : List Bool) → slice_get l.searches.items end ≡ Some (Some found) → ⊥;
}
