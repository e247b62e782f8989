use Rattle.value_grammar.proofs.First.{stops_refused}
use Rattle.value_grammar.proofs.laws.stop_is_refusal.Goals as goal

pub returns : goal.returns
returns c = stops_refused
