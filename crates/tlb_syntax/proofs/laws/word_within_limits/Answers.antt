use Rattle.tlb_syntax.specs.Lexeme.{lexemes}
use Rattle.tlb_syntax.proofs.Limited.{word_within}
use Rattle.tlb_syntax.proofs.OfText.{of_text}
use Rattle.tlb_syntax.proofs.laws.word_within_limits.Goals as goal

pub returns : goal.returns
returns c = λ text e w. word_within (lexemes text w.tokens) e w.written (of_text text w.tokens w.tokenized)
