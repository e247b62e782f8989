use Rattle.value_grammar.proofs.Complete.{written_finishes}
use Rattle.value_grammar.proofs.laws.written_is_finished.Goals as goal

pub returns : goal.returns
returns c = written_finishes
