use Rattle.schema_core.specs.BoundLaws.{core_is_within}
use Rattle.schema_core.proofs.laws.core_is_within.Goals as goal

pub returns : goal.returns
returns c = core_is_within
