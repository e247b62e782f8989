use Rattle.accepted_spelling.proofs.laws.one_constructor.Goals as goal

pub returns : goal.returns
returns c = λ s ok. c.one_constructor.ensures _ (c.accepted_is_acceptable.ensures s ok)
