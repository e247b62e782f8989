use Rattle.tlb_kinds.proofs.Passing.{passed_over}
use Rattle.tlb_kinds.proofs.laws.passed_over.Goals as goal

pub returns : goal.returns
returns c = passed_over
