use Rattle.tlb_lexer.proofs.Tokenization.{placed}
use Rattle.tlb_lexer.proofs.laws.in_order.Goals as goal

pub returns : goal.returns
returns c = placed
