use Rattle.std.proofs.Common.{drop}
use Rattle.building.specs.Buildable.{AreHashes}
use Rattle.plan_building.proofs.ranges.are_hashes.Given as goal

abbrev pub invariant-loop-hidden : goal.invariant-loop-hidden
invariant-loop-hidden l = AreHashes (drop l.hidden-index l.unknown) → AreHashes l.unknown
