use Rattle.std.proofs.Common.{◌≡◌, ◌++◌, drop, map}
use Rattle.pruned_proof.specs.View.{rest_of, rests_of}
use Rattle.pruned_proof.specs.Wanted.{each, entering}
use Rattle.pruned_proof.proofs.wanted.Wanted.below.Given as goal

abbrev pub invariant-rests : goal.invariant-rests
invariant-rests l =
    map rest_of l.rests.items ++ each (entering l.prefix) (map rest_of (drop l.rest-index l.self.rests.items))
    ≡ each (entering l.prefix) (rests_of l.self)
