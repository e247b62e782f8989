use Rattle.field_plan.specs.Placed.{place_view}
use Rattle.cli_stages.proofs.Stopped.{cell_read, cell_stopped}
use Rattle.cli_stages.proofs.cell.cell_value.Goals as goal

pub returns-in-Ok : goal.returns-in-Ok
returns-in-Ok c = cell_read _ _ _ _ _ c.schema-schema.ensures.kept c.in-Ok.ensures

pub returns-in-Err-Stuck : goal.returns-in-Err-Stuck
returns-in-Err-Stuck c =
    cell_stopped _ _ _ _ (place_view c.in-Err-Stuck.place) _ c.schema-schema.ensures.kept
    (rw c.in-Err-Stuck.field-0-is at c.in-Err-Stuck.ensures) c.refused.ensures
