use Rattle.tlb_syntax.specs.Limits.{IsWithinLimits}
use Rattle.tlb_syntax.specs.View.{schema}
use Rattle.tlb_syntax.specs.Written.{Writes}
use Rattle.tlb_grammar.specs.Answer.{Refuses}
use Rattle.tlb_grammar.proofs.TextAnswers.{Laws, answered_written, answered_refused, answered_limits, written_at_most_once, refused_at_most_once, not_both_read}
use Rattle.tlb_grammar.proofs.read.read_schema.Goals as goal

pub returns-clause-written : goal.returns-clause-written
returns-clause-written c =
    let text = c.args.text.now in
    let laws : Laws = record {
      tokens = record { tokenized = c.at_most_one.ensures.tokenized; refusal = c.at_most_one.ensures.refusal; not_both = c.at_most_one.ensures.not_both };
      one_schema = c.one_answer.ensures.schema;
      one_word = c.one_answer.ensures.word;
      first_schema = c.one_answer.ensures.schema_first;
      first_word = c.one_answer.ensures.word_first;
    } in
    answered_written c.schema_of.result schema (Writes text) (Refuses text) (written_at_most_once laws text) (not_both_read laws text) c.schema_of.ensures

pub returns-clause-refused : goal.returns-clause-refused
returns-clause-refused c =
    let text = c.args.text.now in
    let laws : Laws = record {
      tokens = record { tokenized = c.at_most_one.ensures.tokenized; refusal = c.at_most_one.ensures.refusal; not_both = c.at_most_one.ensures.not_both };
      one_schema = c.one_answer.ensures.schema;
      one_word = c.one_answer.ensures.word;
      first_schema = c.one_answer.ensures.schema_first;
      first_word = c.one_answer.ensures.word_first;
    } in
    answered_refused c.schema_of.result schema (Writes text) (Refuses text) (refused_at_most_once laws text) (not_both_read laws text) c.schema_of.ensures

pub returns-clause-limits : goal.returns-clause-limits
returns-clause-limits c =
    let text = c.args.text.now in
    answered_limits c.schema_of.result schema (Writes text) IsWithinLimits (Refuses text) (c.written_within_limits.ensures text) c.schema_of.ensures
