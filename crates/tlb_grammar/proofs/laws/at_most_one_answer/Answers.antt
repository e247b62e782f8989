use Rattle.tlb_grammar.proofs.TextAnswers.{Laws, written_at_most_once, refused_at_most_once, not_both_read, word_at_most_once, word_refused_at_most_once, not_both_words}
use Rattle.tlb_grammar.proofs.laws.at_most_one_answer.Goals as goal

pub returns-clause-written : goal.returns-clause-written
returns-clause-written c =
    let laws : Laws = record {
      tokens = record { tokenized = c.at_most_one.ensures.tokenized; refusal = c.at_most_one.ensures.refusal; not_both = c.at_most_one.ensures.not_both };
      one_schema = c.one_answer.ensures.schema;
      one_word = c.one_answer.ensures.word;
      first_schema = c.one_answer.ensures.schema_first;
      first_word = c.one_answer.ensures.word_first;
    } in
    written_at_most_once laws

pub returns-clause-refused : goal.returns-clause-refused
returns-clause-refused c =
    let laws : Laws = record {
      tokens = record { tokenized = c.at_most_one.ensures.tokenized; refusal = c.at_most_one.ensures.refusal; not_both = c.at_most_one.ensures.not_both };
      one_schema = c.one_answer.ensures.schema;
      one_word = c.one_answer.ensures.word;
      first_schema = c.one_answer.ensures.schema_first;
      first_word = c.one_answer.ensures.word_first;
    } in
    refused_at_most_once laws

pub returns-clause-not_both : goal.returns-clause-not_both
returns-clause-not_both c =
    let laws : Laws = record {
      tokens = record { tokenized = c.at_most_one.ensures.tokenized; refusal = c.at_most_one.ensures.refusal; not_both = c.at_most_one.ensures.not_both };
      one_schema = c.one_answer.ensures.schema;
      one_word = c.one_answer.ensures.word;
      first_schema = c.one_answer.ensures.schema_first;
      first_word = c.one_answer.ensures.word_first;
    } in
    not_both_read laws

pub returns-clause-word_written : goal.returns-clause-word_written
returns-clause-word_written c =
    let laws : Laws = record {
      tokens = record { tokenized = c.at_most_one.ensures.tokenized; refusal = c.at_most_one.ensures.refusal; not_both = c.at_most_one.ensures.not_both };
      one_schema = c.one_answer.ensures.schema;
      one_word = c.one_answer.ensures.word;
      first_schema = c.one_answer.ensures.schema_first;
      first_word = c.one_answer.ensures.word_first;
    } in
    word_at_most_once laws

pub returns-clause-word_refused : goal.returns-clause-word_refused
returns-clause-word_refused c =
    let laws : Laws = record {
      tokens = record { tokenized = c.at_most_one.ensures.tokenized; refusal = c.at_most_one.ensures.refusal; not_both = c.at_most_one.ensures.not_both };
      one_schema = c.one_answer.ensures.schema;
      one_word = c.one_answer.ensures.word;
      first_schema = c.one_answer.ensures.schema_first;
      first_word = c.one_answer.ensures.word_first;
    } in
    word_refused_at_most_once laws

pub returns-clause-word_not_both : goal.returns-clause-word_not_both
returns-clause-word_not_both c =
    let laws : Laws = record {
      tokens = record { tokenized = c.at_most_one.ensures.tokenized; refusal = c.at_most_one.ensures.refusal; not_both = c.at_most_one.ensures.not_both };
      one_schema = c.one_answer.ensures.schema;
      one_word = c.one_answer.ensures.word;
      first_schema = c.one_answer.ensures.schema_first;
      first_word = c.one_answer.ensures.word_first;
    } in
    not_both_words laws
