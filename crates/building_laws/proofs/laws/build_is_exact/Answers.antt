use Rattle.building_laws.specs.RoundLaws.{build_is_exact}
use Rattle.building_laws.proofs.laws.build_is_exact.Goals as goal

pub returns : goal.returns
returns c = build_is_exact
