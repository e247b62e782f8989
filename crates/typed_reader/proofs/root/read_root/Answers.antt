use Rattle.std.proofs.Common.{sym}
use Rattle.closed_type.specs.View.{closed_type as type_view}
use Rattle.plan_reading.specs.StopLaws.{stops_at}
use Rattle.spelling.specs.Places.{at_root, stuck}
use Rattle.spelling.specs.declared.Cause.TheVariants.{Exotic}
use Rattle.typed_reader.specs.View.{core_of}
use Rattle.typed_reader.proofs.Roots.{hidden_ref}
use Rattle.typed_reader.proofs.root.read_root.Goals as goal

pub returns-then-is_ref : goal.returns-then-is_ref
returns-then-is_ref c =
    stops_at at_root c.stop_here.result (stuck at_root Exotic) _ (c.stop_here.ensures at_root)
    (hidden_ref c.args.mode (core_of c.args.plan.now.0) (type_view c.args.ty.now) c.args.cell.now c.in-Some.hidden
    (sym c.in-Some.ensures) (sym c.if-is_ref.ensures))
