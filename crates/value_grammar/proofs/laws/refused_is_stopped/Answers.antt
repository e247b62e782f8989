use Rattle.value_grammar.proofs.Stopped.{refused_stops}
use Rattle.value_grammar.proofs.laws.refused_is_stopped.Goals as goal

pub returns : goal.returns
returns c = refused_stops
