use Rattle.kinded_core.specs.KindedLaws.{declared_agree}
use Rattle.kinded_core.proofs.laws.declared_agree.Goals as goal

pub returns : goal.returns
returns c = declared_agree
