use Rattle.std.proofs.Common.{◌≡◌, drop, length}
use Rattle.flat_form.specs.Sound.{OpsAreSound}
use Rattle.building.specs.PlainBuilder.{same_words}
use Rattle.plan_building.specs.FieldNames.{names_of, op_names}
use Rattle.plan_building.proofs.records.has_fields.Given as goal

abbrev pub invariant-loop-op : goal.invariant-loop-op
invariant-loop-op l = record {
  sound : OpsAreSound l.flat (length l.flat.types) (drop l.op-index l.ops);
  same : same_words (names_of l.left) (op_names l.flat (drop l.op-index l.ops))
      ≡ same_words (names_of l.fields) (op_names l.flat l.ops);
}
