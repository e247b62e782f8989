use Rattle.spelling_laws.specs.LeadsLaws.{leads_hold}
use Rattle.spelling_laws.proofs.laws.leads_hold.Goals as goal

pub returns : goal.returns
returns c = leads_hold
