use Rattle.schema_core.specs.SameLaws.{scopes_agree}
use Rattle.schema_core.proofs.laws.scopes_agree.Goals as goal

pub returns : goal.returns
returns c = scopes_agree
