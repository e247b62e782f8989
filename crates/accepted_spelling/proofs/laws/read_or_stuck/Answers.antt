use Rattle.accepted_spelling.proofs.laws.read_or_stuck.Goals as goal

pub returns : goal.returns
returns c = λ mode s ok. c.read_or_stuck.ensures mode _ (c.accepted_is_acceptable.ensures s ok)
