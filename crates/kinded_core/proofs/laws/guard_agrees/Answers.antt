use Rattle.kinded_core.specs.KindedLaws.{guard_agrees}
use Rattle.kinded_core.proofs.laws.guard_agrees.Goals as goal

pub returns : goal.returns
returns c = guard_agrees
