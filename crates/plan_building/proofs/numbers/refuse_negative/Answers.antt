use Rattle.plan_building.specs.StopsLaws.{stops_where}
use Rattle.plan_building.proofs.Numbering.{negative_none, negative_some}
use Rattle.plan_building.proofs.numbers.refuse_negative.Goals as goal

pub returns-then-number-eq0 : goal.returns-then-number-eq0
returns-then-number-eq0 c = λ h width bound named b.
    stops_where h c.stop_here.result _ _ (negative_none h width bound named c.args.number.size b c.if-number-eq0.true)
    (c.stop_here.ensures h)

pub returns-else-number-eq0 : goal.returns-else-number-eq0
returns-else-number-eq0 c = λ h width bound named b.
    stops_where h c.stop_here-else-number-eq0.result _ _
    (negative_some h width bound named c.args.number.size b c.if-number-eq0.false) (c.stop_here-else-number-eq0.ensures h)
