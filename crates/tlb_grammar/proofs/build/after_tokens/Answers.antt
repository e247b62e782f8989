use Rattle.tlb_grammar.proofs.TokenLoop.{read_at}
use Rattle.tlb_grammar.proofs.build.after_tokens.Goals as goal

pub lexeme_at-requires : goal.lexeme_at-requires
lexeme_at-requires c = (read_at c.args.text.now c.args.tokens.now c.tokens.token-index _ c.tokens-test.true c.requires).within

pub step-requires : goal.step-requires
step-requires c = c.lexeme_at.ensures.spelled (read_at c.args.text.now c.args.tokens.now c.tokens.token-index _ c.tokens-test.true c.requires).spelled
