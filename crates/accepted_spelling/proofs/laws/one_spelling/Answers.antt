use Rattle.accepted_spelling.proofs.laws.one_spelling.Goals as goal

pub returns : goal.returns
returns c = λ mode s ok. c.one_spelling.ensures mode _ (c.accepted_is_acceptable.ensures s ok)
