use Rattle.value_grammar.proofs.Determined.{finish_or_stop}
use Rattle.value_grammar.proofs.laws.finish_or_stop.Goals as goal

pub returns : goal.returns
returns c = finish_or_stop
