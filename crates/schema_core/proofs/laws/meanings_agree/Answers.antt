use Rattle.schema_core.specs.SameLaws.{meanings_agree}
use Rattle.schema_core.proofs.laws.meanings_agree.Goals as goal

pub returns : goal.returns
returns c = meanings_agree
