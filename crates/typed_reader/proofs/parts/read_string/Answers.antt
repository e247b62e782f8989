use Rattle.plan_reading.specs.StopLaws.{stops_at}
use Rattle.spelling.specs.Places.{stuck}
use Rattle.typed_reader.proofs.parts.read_string.Goals as goal

pub returns-in-Err-clause-gives : goal.returns-in-Err-clause-gives
returns-in-Err-clause-gives c =
    λ h. stops_at h c.stop_here.result (stuck h c.in-Err.cause) _ (c.stop_here.ensures h) (c.in-Err.ensures h c.args.s.refs)
