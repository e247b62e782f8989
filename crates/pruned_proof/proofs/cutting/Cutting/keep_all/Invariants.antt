use Rattle.std.proofs.Common.{◌≡◌, ◌++◌, length}
use Rattle.pruned_proof.proofs.cutting.Cutting.keep_all.Given as goal

abbrev pub decreases-refs : goal.decreases-refs
decreases-refs l = length l.self.left

abbrev pub invariant-refs : goal.invariant-refs
invariant-refs l = l.self.made.items ++ l.self.left ≡ l.fn.self.made.items ++ l.fn.self.left
