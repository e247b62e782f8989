use Rattle.tlb_syntax.proofs.OfText.{of_text}
use Rattle.tlb_syntax.proofs.laws.tokens_give_lexemes.Goals as goal

pub returns : goal.returns
returns c = of_text
