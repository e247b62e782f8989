use Rattle.std.proofs.Common.{◌≡◌, ◌++◌, drop}
use Rattle.tlb_syntax.specs.View.{constructor, exprs}
use Rattle.schema_core.specs.CoreOf.{inputs_of, names_at_result}
use Rattle.tag_ambiguity.specs.Inputs.{inputs_by, plain_inputs}
use Rattle.tag_ambiguity.proofs.inputs.inputs_of.Given as goal

abbrev pub invariant-loop-e : goal.invariant-loop-e
invariant-loop-e l =
    inputs_by l.inputs ++ plain_inputs (inputs_of (names_at_result (constructor l.constructor)) (exprs (drop l.e-index l.constructor.params)))
    ≡ plain_inputs (inputs_of (names_at_result (constructor l.constructor)) (exprs l.constructor.params))
