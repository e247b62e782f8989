use Rattle.std.proofs.Common.{◌≡◌, drop}
use Rattle.std.specs.Prelude.{max}
use Rattle.tlb_guard.specs.Numbering.{views, width}
use Rattle.tlb_guard.proofs.types.greatest_width.Given as goal

abbrev pub invariant-loop-constructor : goal.invariant-loop-constructor
invariant-loop-constructor l = max l.width (width (views (drop l.constructor-index l.constructors))) ≡ width (views l.constructors)
