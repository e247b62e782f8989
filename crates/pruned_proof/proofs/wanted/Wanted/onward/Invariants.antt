use Rattle.std.proofs.Common.{◌≡◌, ◌++◌, drop, map}
use Rattle.pruned_proof.specs.View.{reached, rest_of, rests_of}
use Rattle.pruned_proof.specs.Wanted.{each, advanced}
use Rattle.pruned_proof.proofs.wanted.Wanted.onward.Given as goal

abbrev pub invariant-rests : goal.invariant-rests
invariant-rests l =
    map rest_of l.rests.items ++ each (advanced (reached l.reached)) (map rest_of (drop l.rest-index l.self.rests.items))
    ≡ each (advanced (reached l.reached)) (rests_of l.self)
