use Rattle.std.proofs.Common.{◌≡◌, ◌++◌, length}
use Rattle.typed_reader.proofs.parts.shared.Given as goal

abbrev pub invariant-loop-cell : goal.invariant-loop-cell
invariant-loop-cell l = l.fn.refs ≡ l.cells ++ l.left

abbrev pub decreases-loop-cell : goal.decreases-loop-cell
decreases-loop-cell l = length l.left
