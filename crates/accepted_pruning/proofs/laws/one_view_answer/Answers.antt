use Rattle.accepted_pruning.proofs.laws.one_view_answer.Goals as goal

pub returns : goal.returns
returns c = λ s ok. c.one_view_answer.ensures _ (c.accepted_is_acceptable.ensures s ok)
