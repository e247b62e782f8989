use Rattle.tlb_guard.proofs.ExposedRules.{exposed_stays}
use Rattle.tlb_guard.proofs.laws.exposed_stays.Goals as goal

pub returns : goal.returns
returns c = exposed_stays
