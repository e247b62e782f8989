use Rattle.tlb_grammar.proofs.TokenLoop.{placed-read}
use Rattle.tlb_grammar.proofs.build.schema_of.Goals as goal

pub after_tokens-requires : goal.after_tokens-requires
after_tokens-requires c = placed-read c.args.text.now 0 c.args.tokens.now c.requires
