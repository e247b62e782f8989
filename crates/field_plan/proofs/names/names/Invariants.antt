use Rattle.std.proofs.Common.{◌≡◌, map, take}
use Rattle.tlb_syntax.specs.View.{constructor}
use Rattle.schema_leads.specs.Tags.{cores}
use Rattle.field_plan.specs.Names.{name_of}
use Rattle.field_plan.proofs.names.names.Given as goal

abbrev pub invariant-loop-place : goal.invariant-loop-place
invariant-loop-place l = l.names ≡ map name_of (take l.place (cores (map constructor l.constructors)))
