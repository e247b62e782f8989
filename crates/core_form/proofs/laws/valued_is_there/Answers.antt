use Rattle.core_form.specs.ValueLaws.{valued_is_there}
use Rattle.core_form.proofs.laws.valued_is_there.Goals as goal

pub returns : goal.returns
returns c = valued_is_there
