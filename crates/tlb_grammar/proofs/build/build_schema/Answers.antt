use Rattle.tlb_syntax.specs.Lexeme.{lexemes}
use Rattle.tlb_syntax.specs.Written.{standard}
use Rattle.tlb_grammar.proofs.TokenLoop.{schema_found, schema_is_found}
use Rattle.tlb_grammar.proofs.build.build_schema.Goals as goal

pub returns : goal.returns
returns c = schema_found standard (lexemes c.args.text.now c.args.tokens.now) c.in-Some.found (rw c.in-Some.is at c.in_ok-built.ensures)

pub unreachable-requires : goal.unreachable-requires
unreachable-requires c = schema_is_found standard (lexemes c.args.text.now c.args.tokens.now) c.requires.written.0 (rw c.in-None.is at c.in_ok-built.ensures) c.requires.written.1
