use Rattle.bag_cells.proofs.HexPlaces.{hex_place}
use Rattle.bag_cells.proofs.laws.bad_hex_place.Goals as goal

pub returns : goal.returns
returns c = hex_place
