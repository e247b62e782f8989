use Rattle.accepted_pruning.proofs.laws.knows_exactly.Goals as goal

pub returns : goal.returns
returns c = λ s ok. c.knows_exactly.ensures _ (c.accepted_names_apart.ensures s ok)
