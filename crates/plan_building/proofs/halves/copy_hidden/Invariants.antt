use Rattle.std.proofs.Common.{◌≡◌, ◌++◌, drop}
use Rattle.plan_building.proofs.halves.copy_hidden.Given as goal

abbrev pub invariant-loop-prefix : goal.invariant-loop-prefix
invariant-loop-prefix l = l.copies.items ++ drop l.prefix-index l.unknown ≡ l.unknown
