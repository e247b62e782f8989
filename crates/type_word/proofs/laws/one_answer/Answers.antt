use Rattle.type_word.specs.AnswerLaws.{Texts, answers_have_memory, one_answer, some_answer}
use Rattle.type_word.proofs.laws.one_answer.Goals as goal

pub returns : goal.returns
returns c =
    let known : Texts = record {
      written = c.at_most_one_answer.ensures.word_written;
      refused = c.at_most_one_answer.ensures.word_refused;
      not_both = c.at_most_one_answer.ensures.word_not_both;
      some = c.written_or_refused.ensures.word;
      tokenized = c.at_most_one.ensures.tokenized;
    } in
    record { at_most = one_answer known; at_least = some_answer known; memory = answers_have_memory }
