use Rattle.tlb_grammar.proofs.read.word_of.Goals as goal

pub build_word-requires-clause-placed : goal.build_word-requires-clause-placed
build_word-requires-clause-placed c = rw c.deref.ensures.value (c.in_order.ensures c.as_bytes-text.result.now c.in_ok-tokens.tokens.items c.in_ok-tokens.ensures.0)
