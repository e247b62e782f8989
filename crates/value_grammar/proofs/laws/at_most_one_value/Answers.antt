use Rattle.value_grammar.proofs.Complete.{written_finishes}
use Rattle.value_grammar.proofs.Determined.{one_finish}
use Rattle.value_grammar.proofs.laws.at_most_one_value.Goals as goal

pub returns : goal.returns
returns c = λ file v w f g. one_finish file v w (written_finishes file v f) (written_finishes file w g)
