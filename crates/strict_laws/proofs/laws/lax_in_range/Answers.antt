use Rattle.strict_laws.proofs.Ranges.{root_range}
use Rattle.strict_laws.proofs.laws.lax_in_range.Goals as goal

pub returns : goal.returns
returns c = λ schema t v d g r. root_range schema t v d r.root g
