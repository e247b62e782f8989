use Rattle.tlb_kinds.proofs.Keeping.{whole_is_kept}
use Rattle.tlb_kinds.proofs.laws.whole_is_kept.Goals as goal

pub returns : goal.returns
returns c = whole_is_kept
