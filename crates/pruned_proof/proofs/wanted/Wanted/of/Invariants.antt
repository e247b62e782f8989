use Rattle.std.proofs.Common.{◌≡◌, ◌++◌, drop, map}
use Rattle.pruned_proof.specs.Proved.{path_views}
use Rattle.pruned_proof.specs.View.{rest_of}
use Rattle.pruned_proof.proofs.wanted.Wanted.of.Given as goal

abbrev pub invariant-paths : goal.invariant-paths
invariant-paths l = map rest_of l.rests.items ++ path_views (drop l.path-index l.paths) ≡ path_views l.paths
