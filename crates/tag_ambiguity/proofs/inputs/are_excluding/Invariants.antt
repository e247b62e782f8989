use Rattle.std.proofs.Common.{◌≡◌, drop}
use Rattle.schema_leads.specs.Separation.{excluding}
use Rattle.tag_ambiguity.specs.Inputs.{inputs_by}
use Rattle.tag_ambiguity.proofs.inputs.are_excluding.Given as goal

abbrev pub invariant-loop-place : goal.invariant-loop-place
invariant-loop-place l =
    excluding (inputs_by l.ps) (inputs_by l.qs) ≡ excluding (inputs_by (drop l.place l.ps)) (inputs_by (drop l.place l.qs))
