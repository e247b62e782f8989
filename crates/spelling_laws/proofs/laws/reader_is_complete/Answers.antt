use Rattle.spelling_laws.specs.OutcomeLaws.{reader_is_complete}
use Rattle.spelling_laws.proofs.laws.reader_is_complete.Goals as goal

pub returns : goal.returns
returns c = reader_is_complete
