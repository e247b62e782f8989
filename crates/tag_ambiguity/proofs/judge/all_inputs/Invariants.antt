use Rattle.std.proofs.Common.{◌≡◌, map, take}
use Rattle.tlb_guard.specs.Numbering.{views}
use Rattle.core_form.specs.Core.{Declaration}
use Rattle.schema_leads.specs.Tags.{cores}
use Rattle.tag_ambiguity.specs.Inputs.{inputs_by, plain_inputs}
use Rattle.tag_ambiguity.proofs.judge.all_inputs.Given as goal

abbrev pub invariant-loop-constructor : goal.invariant-loop-constructor
invariant-loop-constructor l =
    map inputs_by l.inputs ≡ map (λ (d : Declaration). plain_inputs d.core.inputs) (take l.constructor-index (cores (views l.constructors)))
