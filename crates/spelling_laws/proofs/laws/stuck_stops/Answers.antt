use Rattle.spelling_laws.specs.OutcomeLaws.{stuck_stops}
use Rattle.spelling_laws.proofs.laws.stuck_stops.Goals as goal

pub returns : goal.returns
returns c = stuck_stops
