use Rattle.std.proofs.Common.{◌≡◌, [], drop}
use Rattle.tlb_syntax.specs.Lexeme.{lexemes}
use Rattle.tlb_grammar.specs.Builder.{run, at}
use Rattle.tlb_grammar.specs.Follows.{state}
use Rattle.tlb_grammar.proofs.build.after_tokens.Given as goal

abbrev pub invariant-tokens : goal.invariant-tokens
invariant-tokens l = run (state l.mode l.builder) (lexemes l.text (drop l.token-index l.tokens)) ≡ run (at l.fn.start [] []) (lexemes l.text l.tokens)
