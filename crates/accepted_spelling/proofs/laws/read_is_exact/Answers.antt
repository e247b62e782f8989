use Rattle.accepted_spelling.proofs.laws.read_is_exact.Goals as goal

pub returns : goal.returns
returns c = λ mode s ok. c.read_is_exact.ensures mode _ (c.accepted_is_acceptable.ensures s ok)
