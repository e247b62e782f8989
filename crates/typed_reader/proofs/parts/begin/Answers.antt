use Rattle.plan_reading.specs.StopLaws.{stops_at}
use Rattle.spelling.specs.Places.{stuck}
use Rattle.spelling.specs.declared.Cause.TheVariants.{Bulk, Nesting}
use Rattle.std.proofs.Common.{arith}
use Rattle.typed_reader.proofs.Levels.{starting_many, starting_none}
use Rattle.typed_reader.proofs.parts.begin.Goals as goal

pub returns-then-levels-eq0-clause-begins : goal.returns-then-levels-eq0-clause-begins
returns-then-levels-eq0-clause-begins c =
    λ h. stops_at h c.stop_here.result (stuck h Nesting) _ (c.stop_here.ensures h)
    (starting_none c.args.levels c.args.begun.now h c.if-levels-eq0.true)

pub returns-then-begun-ge-MOST_PARTS-clause-begins : goal.returns-then-begun-ge-MOST_PARTS-clause-begins
returns-then-begun-ge-MOST_PARTS-clause-begins c =
    λ h. stops_at h c.stop_here-then-begun-ge-MOST_PARTS.result (stuck h Bulk) _ (c.stop_here-then-begun-ge-MOST_PARTS.ensures h)
    (starting_many c.args.levels c.args.begun.now h (omega arith) (omega arith))
