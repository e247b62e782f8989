use Rattle.building_laws.specs.RoundLaws.{read_then_build}
use Rattle.building_laws.proofs.laws.read_then_build.Goals as goal

pub returns : goal.returns
returns c = read_then_build
