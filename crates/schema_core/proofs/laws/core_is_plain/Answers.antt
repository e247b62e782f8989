use Rattle.schema_core.specs.PlainLaws.{core_is_plain}
use Rattle.schema_core.proofs.laws.core_is_plain.Goals as goal

pub returns : goal.returns
returns c = core_is_plain
