use Rattle.spelling_laws.specs.OutcomeLaws.{reader_stops}
use Rattle.spelling_laws.proofs.laws.reader_stops.Goals as goal

pub returns : goal.returns
returns c = reader_stops
