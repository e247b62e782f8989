use Rattle.tlb_kinds.proofs.Keeping.{kept_is_ordinary}
use Rattle.tlb_kinds.proofs.laws.kept_is_ordinary.Goals as goal

pub returns : goal.returns
returns c = kept_is_ordinary
