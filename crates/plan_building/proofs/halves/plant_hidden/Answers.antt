use Rattle.plan_building.specs.StopsLaws.{stops_where}
use Rattle.plan_building.proofs.Halving.{judged_hidden}
use Rattle.plan_building.proofs.halves.plant_hidden.Goals as goal

pub returns-then-hidden-gt1024 : goal.returns-then-hidden-gt1024
returns-then-hidden-gt1024 c = λ h n.
    stops_where h c.stop_here.result _ _ (judged_hidden h n c.args.hidden c.if-hidden-gt1024.true) (c.stop_here.ensures h)
