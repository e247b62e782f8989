use Rattle.std.proofs.Common.{◌≡◌, ℕ, ◌+◌, ◌<◌, List, Some}
use Rattle.std.specs.Prelude.{slice_get}
use Rattle.pruning.specs.Knowing.{NamesSomething}
use Rattle.typed_value.specs.Paths.{Stride}
use Rattle.typed_value.specs.View.{value}
use Rattle.pruned_proof.specs.Proved.{path_views}
use Rattle.pruned_proof.proofs.proving.first_nameless.Given as goal

abbrev pub invariant-paths : goal.invariant-paths
invariant-paths l = record {
  count : l.number ≡ l.path-index + 1;
  named : (j : ℕ) (path : List Stride) → j < l.path-index → slice_get (path_views l.paths) j ≡ Some path
      → NamesSomething (value l.value) path;
}
