use Rattle.accepted_pruning.proofs.laws.one_laid.Goals as goal

pub returns : goal.returns
returns c = λ s ok. c.one_laid.ensures _ (c.accepted_is_acceptable.ensures s ok)
