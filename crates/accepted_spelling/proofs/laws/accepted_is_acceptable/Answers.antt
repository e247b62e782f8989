use Rattle.accepted_spelling.specs.AcceptableLaws.{accepted_is_acceptable}
use Rattle.accepted_spelling.proofs.laws.accepted_is_acceptable.Goals as goal

pub returns : goal.returns
returns c = accepted_is_acceptable c.core_is_plain.ensures c.kept_stays_within.ensures c.no_long_chain.ensures
