use Rattle.tlb_syntax.specs.Lexeme.{lexemes}
use Rattle.syntax_check.proofs.CheckAnswers.{word-answered}
use Rattle.syntax_check.proofs.check_word.Goals as goal

pub returns : goal.returns
returns c = word-answered (lexemes c.args.text.now c.args.tokens.now) c.check.result c.check.ensures
