use Rattle.accepted_pruning.proofs.laws.pruned_tree_reads.Goals as goal

pub returns : goal.returns
returns c = λ s ok. c.pruned_tree_reads.ensures _ (c.accepted_names_apart.ensures s ok)
