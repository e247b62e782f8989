use Rattle.core_form.specs.ValueLaws.{none_is_large}
use Rattle.core_form.proofs.laws.none_is_large.Goals as goal

pub returns : goal.returns
returns c = none_is_large
