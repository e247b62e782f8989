use Rattle.tlb_kinds.proofs.Passing.{kinded_stays}
use Rattle.tlb_kinds.proofs.laws.kinded_stays.Goals as goal

pub returns : goal.returns
returns c = kinded_stays
