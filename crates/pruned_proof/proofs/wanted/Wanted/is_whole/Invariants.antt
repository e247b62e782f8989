use Rattle.std.proofs.Common.{◌≡◌, drop, map}
use Rattle.pruned_proof.specs.View.{rest_of, rests_of}
use Rattle.pruned_proof.specs.Wanted.{is_whole}
use Rattle.pruned_proof.proofs.wanted.Wanted.is_whole.Given as goal

abbrev pub invariant-rests : goal.invariant-rests
invariant-rests l = is_whole (map rest_of (drop l.rest-index l.self.rests.items)) ≡ is_whole (rests_of l.self)
