use Rattle.accepted_pruning.proofs.laws.pruning_commutes.Goals as goal

pub returns : goal.returns
returns c = λ s ok. c.pruning_commutes.ensures _ (c.accepted_names_apart.ensures s ok)
