use Rattle.schema_core.specs.SameLaws.{types_agree}
use Rattle.schema_core.proofs.laws.types_agree.Goals as goal

pub returns : goal.returns
returns c = types_agree
