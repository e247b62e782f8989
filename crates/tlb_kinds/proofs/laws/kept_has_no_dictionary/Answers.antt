use Rattle.tlb_kinds.proofs.Keeping.{kept_has_no_dictionary}
use Rattle.tlb_kinds.proofs.laws.kept_has_no_dictionary.Goals as goal

pub returns : goal.returns
returns c = kept_has_no_dictionary
