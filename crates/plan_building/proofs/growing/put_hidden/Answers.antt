use Rattle.plan_building.specs.StopsLaws.{stops_where}
use Rattle.plan_building.specs.View.{grown}
use Rattle.plan_building.proofs.Laying.{no_hidden}
use Rattle.plan_building.proofs.growing.put_hidden.Goals as goal

pub returns-in-Whole : goal.returns-in-Whole
returns-in-Whole c = λ h.
    stops_where h c.stop_here.result _ _ (no_hidden c.args.mode h c.args.hidden (grown c.args.b.now) c.in-Whole.is)
    (c.stop_here.ensures h)
