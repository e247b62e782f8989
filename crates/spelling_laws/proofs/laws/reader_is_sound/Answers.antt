use Rattle.spelling_laws.specs.OutcomeLaws.{reader_is_sound}
use Rattle.spelling_laws.proofs.laws.reader_is_sound.Goals as goal

pub returns : goal.returns
returns c = reader_is_sound
