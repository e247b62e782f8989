use Rattle.std.proofs.Common.{◌+◌, arith, drop}
use Rattle.std.proofs.lemmas.List.{drop_all, drop_more}
use Rattle.flat_form.specs.Stands.{type_at}
use Rattle.plan_building.proofs.Naming.{fields_end, fields_stop}
use Rattle.plan_building.proofs.records.has_fields.Goals as goal

pub returns : goal.returns
returns c =
    fields_end c.args.flat.now (type_at c.args.flat.now) c.args.ops.now (drop c.loop-op.op-index c.args.ops.now)
    c.args.fields.now c.loop-op.left.now _ (drop_all c.loop-op.op-index c.args.ops.now (omega arith))
    c.loop-op.invariant.same c.is_empty.ensures

pub returns-in-None : goal.returns-in-None
returns-in-None c =
    fields_stop c.args.flat.now (type_at c.args.flat.now) c.args.ops.now (drop c.loop-op.op-index c.args.ops.now)
    (drop (c.loop-op.op-index + 1) c.args.ops.now) _ c.args.fields.now c.loop-op.left.now
    (drop_more c.args.ops.now c.loop-op.op-index _ c.loop-op-test.true) c.loop-op.invariant.same
    (c.in-None.ensures (drop (c.loop-op.op-index + 1) c.args.ops.now))
