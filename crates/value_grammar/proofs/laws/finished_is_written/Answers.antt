use Rattle.value_grammar.proofs.Sound.{finished_writes}
use Rattle.value_grammar.proofs.laws.finished_is_written.Goals as goal

pub returns : goal.returns
returns c = finished_writes
