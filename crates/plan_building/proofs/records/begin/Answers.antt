use Rattle.plan_building.specs.Begun.{starting}
use Rattle.plan_building.specs.StopsLaws.{stops_where}
use Rattle.plan_building.proofs.Beginning.{starting_full, starting_none}
use Rattle.plan_building.proofs.records.begin.Goals as goal

pub returns-then-levels-eq0-clause-begins : goal.returns-then-levels-eq0-clause-begins
returns-then-levels-eq0-clause-begins c = λ h.
    stops_where h c.stop_here.result _ (starting c.args.levels c.args.begun.now h)
    (starting_none c.args.levels c.args.begun.now h c.if-levels-eq0.true) (c.stop_here.ensures h)

pub returns-then-begun-ge-MOST_PARTS-clause-begins : goal.returns-then-begun-ge-MOST_PARTS-clause-begins
returns-then-begun-ge-MOST_PARTS-clause-begins c = λ h.
    stops_where h c.stop_here-then-begun-ge-MOST_PARTS.result _ (starting c.args.levels c.args.begun.now h)
    (starting_full c.args.levels c.args.begun.now h c.if-levels-eq0.false c.if-begun-ge-MOST_PARTS.true)
    (c.stop_here-then-begun-ge-MOST_PARTS.ensures h)
