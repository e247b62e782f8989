use Rattle.std.proofs.Common.{refl}
use Rattle.plan_building.specs.StopsLaws.{stops_where}
use Rattle.plan_building.proofs.numbers.refuse.Goals as goal

pub returns : goal.returns
returns c = λ h. stops_where h c.stop_here.result _ _ refl (c.stop_here.ensures h)
