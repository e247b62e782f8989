use Rattle.tlb_lexer.proofs.Tokenization.{answered_tokens, answered_refused, answered_placed}
use Rattle.tlb_lexer.proofs.tokens.Goals as goal

pub returns-clause-tokenized : goal.returns-clause-tokenized
returns-clause-tokenized c = answered_tokens c.args.text.now c.tokenize.result (λ v. v.items) c.tokenize.ensures

pub returns-clause-refused : goal.returns-clause-refused
returns-clause-refused c = answered_refused c.args.text.now c.tokenize.result (λ v. v.items) c.tokenize.ensures

pub returns-clause-placed : goal.returns-clause-placed
returns-clause-placed c = answered_placed c.args.text.now c.tokenize.result (λ v. v.items) c.tokenize.ensures
