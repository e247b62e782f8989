use Rattle.syntax_check.proofs.SomeAnswer.{schema_some_answer, word_some_answer}
use Rattle.syntax_check.proofs.laws.some_answer.Goals as goal

pub returns-clause-schema : goal.returns-clause-schema
returns-clause-schema c = schema_some_answer

pub returns-clause-word : goal.returns-clause-word
returns-clause-word c = word_some_answer
