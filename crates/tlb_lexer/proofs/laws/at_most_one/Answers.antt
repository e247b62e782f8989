use Rattle.tlb_lexer.proofs.Tokenization.{tokens_once, refused_once, not_both}
use Rattle.tlb_lexer.proofs.laws.at_most_one.Goals as goal

pub returns : goal.returns
returns c = record { tokenized = tokens_once; refusal = refused_once; not_both = not_both }
