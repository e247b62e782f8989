use Rattle.accepted_pruning.proofs.laws.prove_then_view.Goals as goal

pub returns : goal.returns
returns c = λ s ok. c.prove_then_view.ensures _ (c.accepted_names_apart.ensures s ok)
