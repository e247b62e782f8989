use Rattle.value_grammar.proofs.Complete.{written_finishes}
use Rattle.value_grammar.proofs.Determined.{finish_or_stop}
use Rattle.value_grammar.proofs.Stopped.{refused_stops}
use Rattle.value_grammar.proofs.laws.refused_writes_none.Goals as goal

pub returns : goal.returns
returns c = λ file v cause byte w r. finish_or_stop file v cause byte (written_finishes file v w) (refused_stops file cause byte r)
