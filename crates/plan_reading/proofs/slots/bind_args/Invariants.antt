use Rattle.std.proofs.Common.{◌≡◌, List, Option, drop}
use Rattle.closed_type.specs.declared.tree.ClosedType.{ClosedType}
use Rattle.core_form.specs.Core.{outs}
use Rattle.core_form.specs.Scope.{bind}
use Rattle.flat_form.specs.Stands.{args_in, type_at}
use Rattle.plan_closing.specs.Counted.{scope_of}
use Rattle.plan_reading.proofs.slots.bind_args.Given as goal

abbrev pub invariant-loop-arg : goal.invariant-loop-arg
invariant-loop-arg l = (types : List (Option ClosedType))
    → bind (outs (args_in l.flat (type_at l.flat) (drop l.arg-index l.args))) l.left (scope_of l.env types)
    ≡ bind (outs (args_in l.flat (type_at l.flat) l.args)) l.outputs (scope_of l.fn.env types)
