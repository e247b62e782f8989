use Rattle.std.proofs.Common.{◌≡◌, List, Option, All, drop, map}
use Rattle.closed_type.specs.declared.tree.ClosedType.{ClosedType}
use Rattle.core_form.specs.Scope.{values_in}
use Rattle.flat_form.specs.Sound.{IsPlainNumber}
use Rattle.flat_form.specs.Stands.{expr_at}
use Rattle.plan_closing.specs.Counted.{scope_of}
use Rattle.plan_reading.proofs.Outputs.{after}
use Rattle.plan_reading.proofs.items.values.Given as goal

abbrev pub invariant-loop-output : goal.invariant-loop-output
invariant-loop-output l = record {
  plain : All (IsPlainNumber l.flat) (drop l.output-index l.outputs);
  same : (types : List (Option ClosedType))
      → after l.numbers (values_in (map (expr_at l.flat) (drop l.output-index l.outputs)) (scope_of l.env types))
      ≡ values_in (map (expr_at l.flat) l.outputs) (scope_of l.env types);
}
