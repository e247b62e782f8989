use Rattle.tlb_grammar.proofs.read.schema_of.Goals as goal

pub build_schema-requires-clause-placed : goal.build_schema-requires-clause-placed
build_schema-requires-clause-placed c = rw c.deref.ensures.value (c.in_order.ensures c.args.text.now c.in_ok-tokens.tokens.items c.in_ok-tokens.ensures.0)
