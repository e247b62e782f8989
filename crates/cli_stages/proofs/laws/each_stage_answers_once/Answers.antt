use Rattle.cli_stages.proofs.BuiltFacts.{Buildings, built-stage}
use Rattle.cli_stages.proofs.Layers.{Bags, Schemas, Texts, Words}
use Rattle.cli_stages.proofs.MadeFacts.{Proofs, made-stage}
use Rattle.cli_stages.proofs.PathFacts.{PathLaws, paths-stage}
use Rattle.cli_stages.proofs.ProofFacts.{proof-stage}
use Rattle.cli_stages.proofs.RebuiltFacts.{rebuilt-stage}
use Rattle.cli_stages.proofs.StageFacts.{bag-stage, cell-stage, schema-stage, word-stage}
use Rattle.cli_stages.proofs.ValueTextFacts.{ValueTexts, value-text-stage}
use Rattle.cli_stages.proofs.Whole.{is-whole}
use Rattle.cli_stages.proofs.laws.each_stage_answers_once.Goals as goal

pub returns : goal.returns
returns c =
    let texts : Texts = record {
      written = c.at_most_one_answer.ensures.written;
      refused = c.at_most_one_answer.ensures.refused;
      not_both = c.at_most_one_answer.ensures.not_both;
      some = c.written_or_refused.ensures.schema;
    } in
    let schemas : Schemas = record {
      within = c.written_within_limits.ensures;
      stays_within = c.kept_stays_within.ensures;
      stays_kinded = c.kinded_stays.ensures;
      passed_over = c.passed_over.ensures;
      accepted_or_refused = c.accepted_or_refused.ensures;
      has_no_refusal = c.accepted_has_no_refusal.ensures;
    } in
    let words : Words = record {
      one = c.one_answer.ensures.at_most;
      some = c.one_answer.ensures.at_least;
      memory = c.one_answer.ensures.memory;
      written = c.at_most_one_answer.ensures.word_written;
    } in
    let bags : Bags = record {
      tree = c.at_most_one.ensures.tree;
      refused = c.at_most_one.ensures.refusal;
      not_both = c.at_most_one.ensures.not_both;
      some = c.at_least_one.ensures;
    } in
    let values : ValueTexts = record {
      value = c.at_most_one_value.ensures;
      refusal = c.at_most_one_refusal.ensures;
      not_both = c.refused_writes_none.ensures;
      some = c.value_or_refusal.ensures;
    } in
    let paths : PathLaws = record {
      one = c.at_most_one_path.ensures.path;
      not_both = c.at_most_one_path.ensures.not_both;
      some = c.at_least_one_path.ensures;
    } in
    let proofs : Proofs = record {
      one_answer = c.one_prove_answer.ensures;
      one_reading = c.read_or_stuck.ensures;
      laid = c.laid_is_read.ensures;
    } in
    let buildings : Buildings = record {
      buildable = c.accepted_is_buildable.ensures;
      one_tree = c.one_tree.ensures;
      one_place = c.one_place.ensures;
      not_both = c.no_tree_where_unfit.ensures;
      some = c.tree_or_place.ensures;
    } in
    record {
      schema = schema-stage texts schemas;
      whole = is-whole schemas c.accepted_stays.ensures;
      type_word = word-stage words;
      bag = bag-stage bags;
      cell = cell-stage c.read_or_stuck.ensures;
      proof = proof-stage c.read_or_stuck.ensures;
      value_text = value-text-stage values;
      built = built-stage buildings;
      rebuilt = rebuilt-stage;
      paths = paths-stage paths;
      one_path = c.at_most_one_path.ensures.path;
      made = made-stage proofs;
    }
