use Rattle.declared_maps.proofs.Declared.{maps_are_declared}
use Rattle.declared_maps.proofs.laws.maps_are_declared.Goals as goal

pub returns : goal.returns
returns c = maps_are_declared
