use Rattle.strict_laws.proofs.Loose.{whole_is_lax}
use Rattle.strict_laws.proofs.laws.whole_is_lax.Goals as goal

pub returns : goal.returns
returns c = whole_is_lax
