use Rattle.tlb_grammar.proofs.TextAnswers.{schema_or_refusal, word_or_refusal}
use Rattle.tlb_grammar.proofs.laws.written_or_refused.Goals as goal

pub returns-clause-schema : goal.returns-clause-schema
returns-clause-schema c = λ text. schema_or_refusal text (c.at_least_one.ensures text) c.some_answer.ensures.schema

pub returns-clause-word : goal.returns-clause-word
returns-clause-word c = λ text. word_or_refusal text (c.at_least_one.ensures text) c.some_answer.ensures.word
