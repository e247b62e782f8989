use Rattle.value_grammar.proofs.Total.{value_or_refusal}
use Rattle.value_grammar.proofs.laws.value_or_refusal.Goals as goal

pub returns : goal.returns
returns c = value_or_refusal
