use Rattle.tlb_syntax.specs.Limits.{IsWordWithinLimits}
use Rattle.tlb_syntax.specs.View.{expr}
use Rattle.tlb_syntax.specs.Written.{WritesWord}
use Rattle.tlb_grammar.specs.Answer.{RefusesWord}
use Rattle.tlb_grammar.proofs.TextAnswers.{Laws, answered_written, answered_refused, answered_limits, word_at_most_once, word_refused_at_most_once, not_both_words}
use Rattle.tlb_grammar.proofs.read.read_type.Goals as goal

pub returns-clause-written : goal.returns-clause-written
returns-clause-written c =
    let text = c.args.word.now in
    let laws : Laws = record {
      tokens = record { tokenized = c.at_most_one.ensures.tokenized; refusal = c.at_most_one.ensures.refusal; not_both = c.at_most_one.ensures.not_both };
      one_schema = c.one_answer.ensures.schema;
      one_word = c.one_answer.ensures.word;
      first_schema = c.one_answer.ensures.schema_first;
      first_word = c.one_answer.ensures.word_first;
    } in
    answered_written c.word_of.result expr (WritesWord text) (RefusesWord text) (word_at_most_once laws text) (not_both_words laws text) c.word_of.ensures

pub returns-clause-refused : goal.returns-clause-refused
returns-clause-refused c =
    let text = c.args.word.now in
    let laws : Laws = record {
      tokens = record { tokenized = c.at_most_one.ensures.tokenized; refusal = c.at_most_one.ensures.refusal; not_both = c.at_most_one.ensures.not_both };
      one_schema = c.one_answer.ensures.schema;
      one_word = c.one_answer.ensures.word;
      first_schema = c.one_answer.ensures.schema_first;
      first_word = c.one_answer.ensures.word_first;
    } in
    answered_refused c.word_of.result expr (WritesWord text) (RefusesWord text) (word_refused_at_most_once laws text) (not_both_words laws text) c.word_of.ensures

pub returns-clause-limits : goal.returns-clause-limits
returns-clause-limits c =
    let text = c.args.word.now in
    answered_limits c.word_of.result expr (WritesWord text) IsWordWithinLimits (RefusesWord text) (c.word_within_limits.ensures text) c.word_of.ensures
