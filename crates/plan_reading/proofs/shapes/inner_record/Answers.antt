use Rattle.std.proofs.Common.{arith}
use Rattle.flat_form.specs.GrowthLaws.{ops_higher}
use Rattle.plan_reading.proofs.shapes.inner_record.Goals as goal

pub returns-in_ok-first-in-Ref-clause-sound : goal.returns-in_ok-first-in-Ref-clause-sound
returns-in_ok-first-in-Ref-clause-sound c =
    let inner = c.in_ok-first-in-Ref.ensures.sound in
    record { there = inner.there; sound = ops_higher _ _ _ _ (omega (arith, c.in-Ref.ensures.sound)) inner.sound }
