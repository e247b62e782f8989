use Rattle.accepted_pruning.proofs.laws.named_is_known.Goals as goal

pub returns : goal.returns
returns c = λ s ok. c.named_is_known.ensures _ (c.accepted_names_apart.ensures s ok)
