use Rattle.std.proofs.lemmas.Iterator.Adapters.{YieldsList-from_vec}
use Rattle.std.proofs.lemmas.Iterator.Consumers.{YieldsList-end}
use Rattle.std.proofs.Common.{◌∙◌}
use Rattle.plan_building.proofs.Halving.{side_all, side_step}
use Rattle.plan_building.proofs.halves.split.Goals as goal

pub loop-key-preserved : goal.loop-key-preserved
loop-key-preserved g c = record {
  zeros = side_step 0 c.loop-key.yielded c.in-Some.key c.in-Some.item _ _
      c.loop-key.invariant.zeros c.in_ok-put_side.ensures.zeros;
  ones = side_step 1 c.loop-key.yielded c.in-Some.key c.in-Some.item _ _
      c.loop-key.invariant.ones c.in_ok-put_side.ensures.ones;
}

pub returns-clause-zeros : goal.returns-clause-zeros
returns-clause-zeros g c =
    let i = c.into_iter-key-iterator.ensures.into_iter_gives in
    side_all 0 c.loop-key.yielded c.args.items.items _ c.loop-key.invariant.zeros
    (YieldsList-end
    (YieldsList-from_vec {s = c.into_iter-key-iterator.result} c.args.items.items i.0 (i.1 ∙ c.args.items.ok.0))
    c.loop-key.yielded c.loop-key.key-iterator c.loop-key.yielded_by
    c.next.result c.next.new.self c.in-None.is c.next.ensures.steps).0

pub returns-clause-ones : goal.returns-clause-ones
returns-clause-ones g c =
    let i = c.into_iter-key-iterator.ensures.into_iter_gives in
    side_all 1 c.loop-key.yielded c.args.items.items _ c.loop-key.invariant.ones
    (YieldsList-end
    (YieldsList-from_vec {s = c.into_iter-key-iterator.result} c.args.items.items i.0 (i.1 ∙ c.args.items.ok.0))
    c.loop-key.yielded c.loop-key.key-iterator c.loop-key.yielded_by
    c.next.result c.next.new.self c.in-None.is c.next.ensures.steps).0
