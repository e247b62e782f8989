use Rattle.syntax_check.proofs.OneAnswer.{schema_one_answer, word_one_answer, one_first}
use Rattle.tlb_syntax.specs.Written.{SchemaRefusal, WordRefusal}
use Rattle.syntax_check.proofs.laws.one_answer.Goals as goal

pub returns-clause-schema : goal.returns-clause-schema
returns-clause-schema c = schema_one_answer

pub returns-clause-word : goal.returns-clause-word
returns-clause-word c = word_one_answer

pub returns-clause-schema_first : goal.returns-clause-schema_first
returns-clause-schema_first c = λ ls. one_first (SchemaRefusal ls)

pub returns-clause-word_first : goal.returns-clause-word_first
returns-clause-word_first c = λ ls. one_first (WordRefusal ls)
