use Rattle.std.proofs.Common.{◌≡◌, Some, take}
use Rattle.value_text.specs.declared.spot.Spot.TheVariants.{Start}
use Rattle.value_text.specs.LexemePoints.{walk}
use Rattle.value_text.proofs.scan.longest.Given as goal

abbrev pub invariant-bytes : goal.invariant-bytes
invariant-bytes l = walk Start (take l.i l.text) ≡ Some l.spot
