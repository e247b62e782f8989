use Rattle.kinded_core.specs.KindedLaws.{kinded_is_resolved}
use Rattle.kinded_core.proofs.laws.kinded_is_resolved.Goals as goal

pub returns : goal.returns
returns c = kinded_is_resolved
