use Rattle.tlb_syntax.proofs.Limited.{within_limits}
use Rattle.tlb_syntax.proofs.laws.productions_keep_limits.Goals as goal

pub returns : goal.returns
returns c = within_limits
