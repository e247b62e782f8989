use Rattle.std.proofs.Common.{◌≡◌, take}
use Rattle.kind_terms.proofs.types.Types.of.Given as goal

abbrev pub invariant-loop-constructor : goal.invariant-loop-constructor
invariant-loop-constructor l = l.types ≡ take l.constructor-index l.constructors
