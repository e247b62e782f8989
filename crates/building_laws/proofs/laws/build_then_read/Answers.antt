use Rattle.building_laws.specs.RoundLaws.{build_then_read}
use Rattle.building_laws.proofs.laws.build_then_read.Goals as goal

pub returns : goal.returns
returns c = build_then_read
