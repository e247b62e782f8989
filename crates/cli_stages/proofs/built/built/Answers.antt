use Rattle.field_plan.specs.Placed.{place_view}
use Rattle.cli_stages.proofs.BuiltFacts.{value-unfit}
use Rattle.cli_stages.proofs.built.built.Goals as goal

pub returns-in-Err-Unfit-clause-answer : goal.returns-in-Err-Unfit-clause-answer
returns-in-Err-Unfit-clause-answer c =
    value-unfit _ _ _ (place_view c.in-Err-Unfit.place) _ c.schema-schema.ensures.kept
    (rw c.in-Err-Unfit.field-0-is at c.in-Err-Unfit.ensures) c.unfit.ensures
