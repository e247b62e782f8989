use Rattle.std.proofs.Common.{◌≡◌, drop}
use Rattle.schema_core.specs.Names.{meaning}
use Rattle.plan_compile.specs.Views.{names_by}
use Rattle.plan_compile.proofs.names.meaning.Given as goal

abbrev pub invariant-loop-entry : goal.invariant-loop-entry
invariant-loop-entry l = meaning (names_by (drop l.entry-index l.names)) l.name ≡ meaning (names_by l.names) l.name
