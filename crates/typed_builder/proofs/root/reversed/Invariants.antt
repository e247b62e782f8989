use Rattle.std.proofs.Common.{◌≡◌, ◌++◌, length, reverse}
use Rattle.typed_builder.proofs.root.reversed.Given as goal

abbrev pub invariant-loop-part : goal.invariant-loop-part
invariant-loop-part l = reverse l.fn.from ≡ l.parts ++ reverse l.left

abbrev pub decreases-loop-part : goal.decreases-loop-part
decreases-loop-part l = length l.left
