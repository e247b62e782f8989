use Rattle.tlb_guard.proofs.LaterRounds.{empty_stays}
use Rattle.tlb_guard.proofs.laws.empty_stays.Goals as goal

pub returns : goal.returns
returns c = empty_stays
