use Rattle.std.proofs.Common.{◌≡◌, ◌++◌, map, drop}
use Rattle.tlb_syntax.specs.View.{exprs}
use Rattle.schema_core.specs.CoreOf.{inputs_of}
use Rattle.flat_form.specs.Stands.{input_of}
use Rattle.plan_compile.specs.Views.{names_by}
use Rattle.plan_compile.proofs.results.inputs.Given as goal

abbrev pub invariant-loop-param : goal.invariant-loop-param
invariant-loop-param l = map input_of l.found ++ inputs_of (names_by l.names) (exprs (drop l.param-index l.params))
    ≡ inputs_of (names_by l.names) (exprs l.params)
