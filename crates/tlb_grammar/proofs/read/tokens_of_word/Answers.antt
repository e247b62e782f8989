use Rattle.tlb_grammar.proofs.TextAnswers.{word_is_refused}
use Rattle.tlb_grammar.proofs.read.tokens_of_word.Goals as goal

pub returns-in-Some : goal.returns-in-Some
returns-in-Some c = λ memory.
    word_is_refused c.args.text.now c.in-Ok.tokens.items c.deref.result.now c.deref-in-Some.result.now c.in-Some.refusal.cause c.in-Some.refusal.place c.refusal_at.result
    c.in-Ok.ensures.holds c.deref.ensures.value c.deref-in-Some.ensures.value (rw c.in-Some.is at c.in_ok-refusal.ensures) c.refusal_at.ensures
