use Rattle.declared_maps.proofs.There.{lines_are_there}
use Rattle.declared_maps.proofs.laws.lines_are_there.Goals as goal

pub returns : goal.returns
returns c = lines_are_there
