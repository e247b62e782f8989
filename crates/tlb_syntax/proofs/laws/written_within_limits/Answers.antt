use Rattle.tlb_syntax.specs.Lexeme.{lexemes}
use Rattle.tlb_syntax.proofs.Limited.{within_limits}
use Rattle.tlb_syntax.proofs.OfText.{of_text}
use Rattle.tlb_syntax.proofs.laws.written_within_limits.Goals as goal

pub returns : goal.returns
returns c text s w = within_limits (lexemes text w.tokens) s w.written (of_text text w.tokens w.tokenized) w.counts
