use Rattle.accepted_spelling.proofs.laws.leads_hold.Goals as goal

pub returns : goal.returns
returns c = λ mode s ok. c.leads_hold.ensures mode _ (c.accepted_is_acceptable.ensures s ok)
