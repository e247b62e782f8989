use Rattle.std.proofs.Common.{◌∙◌, ap, sym, length}
use Rattle.tlb_lexer.specs.declared.Token.{Token}
use Rattle.tlb_grammar.proofs.TextAnswers.{byte_within, byte_past}
use Rattle.tlb_grammar.proofs.read.byte_of.Goals as goal

pub returns-in-Some : goal.returns-in-Some
returns-in-Some c =
    let found = c.in-Some.ensures.lookup in
    c.from.ensures ∙ ap (λ (t : Token). t.from) found.1 ∙ sym
    (byte_within c.args.tokens.now (length c.args.text.now) c.args.place c.in-Some.token.now found.3.0)

pub returns-in-None : goal.returns-in-None
returns-in-None c = sym (byte_past c.args.tokens.now (length c.args.text.now) c.args.place c.in-None.ensures.lookup.3)
