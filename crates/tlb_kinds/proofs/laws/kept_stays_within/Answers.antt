use Rattle.tlb_kinds.proofs.Keeping.{kept_stays_within}
use Rattle.tlb_kinds.proofs.laws.kept_stays_within.Goals as goal

pub returns : goal.returns
returns c = kept_stays_within
