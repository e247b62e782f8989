use Rattle.std.proofs.Common.{map, take}
use Rattle.tlb_syntax.specs.View.{constructor}
use Rattle.flat_form.specs.Sound.{IsFlat}
use Rattle.plan_compile.specs.Compiled.{ArePlansOf}
use Rattle.plan_compile.proofs.compile.compile_all.Given as goal

abbrev pub invariant-loop-constructor : goal.invariant-loop-constructor
invariant-loop-constructor l = record {
  flat : IsFlat l.flat;
  stand : ArePlansOf l.flat (map constructor l.types) (map constructor (take l.constructor-index l.constructors)) l.plans;
}
