use Rattle.declared_maps.proofs.Declared.{maps_have_records}
use Rattle.declared_maps.proofs.laws.maps_have_records.Goals as goal

pub returns : goal.returns
returns c = maps_have_records
