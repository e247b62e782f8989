use Rattle.tlb_guard.proofs.ReachedTypes.{reached_within_type_count}
use Rattle.tlb_guard.proofs.laws.reached_within_type_count.Goals as goal

pub returns : goal.returns
returns c = reached_within_type_count
