use Rattle.tlb_grammar.proofs.Completeness.{word_once}
use Rattle.tlb_grammar.proofs.laws.one_expression.Goals as goal

pub returns : goal.returns
returns c = word_once
