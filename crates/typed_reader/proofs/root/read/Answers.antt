use Rattle.closed_type.specs.View.{closed_type as type_view}
use Rattle.tlb_syntax.specs.View.{schema as schema_view}
use Rattle.typed_value.specs.View.{value as value_view}
use Rattle.typed_reader.proofs.Roots.{answers_placed, is_reading}
use Rattle.typed_reader.proofs.root.read.Goals as goal

pub returns-in-Ok : goal.returns-in-Ok
returns-in-Ok c =
    is_reading c.read_is_exact.ensures c.read_or_stuck.ensures c.args.mode (schema_view c.args.plan.now.0)
    c.schema.ensures.accepted c.schema.ensures.kept
    (type_view c.args.ty.now) c.args.cell.now (value_view c.in-Ok.value) c.in-Ok.ensures

pub returns-in-Err-Stuck : goal.returns-in-Err-Stuck
returns-in-Err-Stuck c =
    answers_placed c.read_is_exact.ensures c.read_or_stuck.ensures c.args.mode (schema_view c.args.plan.now.0)
    c.schema.ensures.accepted c.schema.ensures.kept
    (type_view c.args.ty.now) c.args.cell.now c.in-Err-Stuck.stop c.placed.result c.placed.ensures
    (rw c.in-Err-Stuck.field-0-is at c.in-Err-Stuck.ensures)
