use Rattle.tlb_lexer.proofs.Tokenization.{one_of}
use Rattle.tlb_lexer.proofs.laws.at_least_one.Goals as goal

pub returns : goal.returns
returns c = one_of
