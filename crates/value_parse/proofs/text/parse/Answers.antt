use Rattle.std.proofs.Common.{◌≡◌}
use Rattle.typed_value.specs.View.{value}
use Rattle.value_text.specs.Writes.{TextWrites}
use Rattle.value_grammar.specs.Reading.{Finishes, Stops}
use Rattle.value_grammar.specs.Refused.{TextRefused}
use Rattle.value_parse.proofs.Reach.{parsed_so, written_so}
use Rattle.value_parse.proofs.text.parse.Goals as goal

pub returns-clause-holds : goal.returns-clause-holds
returns-clause-holds c =
    let text = c.args.text.now in
    parsed_so c.read.result (λ v. Finishes text (value v)) (λ v. TextWrites text (value v)) (Stops text) (TextRefused text)
    (λ v h. c.finished_is_written.ensures text (value v) h) (λ cause byte h. c.stop_is_refusal.ensures text cause byte h) c.read.ensures

pub returns-clause-written : goal.returns-clause-written
returns-clause-written c = λ v w.
    let text = c.args.text.now in
    written_so c.read.result (λ x. Finishes text (value x)) (λ x. value x ≡ v) (Stops text)
    (λ x h. c.at_most_one_value.ensures text (value x) v (c.finished_is_written.ensures text (value x) h) w)
    (λ cause byte h. c.finish_or_stop.ensures text v cause byte (c.written_is_finished.ensures text v w) h) c.read.ensures

pub returns-clause-refused : goal.returns-clause-refused
returns-clause-refused c = λ cause byte r.
    let text = c.args.text.now in
    parsed_so c.read.result (λ v. Finishes text (value v)) (λ v. ⊥) (Stops text) (λ found place. (found ≡ cause) × (place ≡ byte))
    (λ v h. c.refused_writes_none.ensures text (value v) cause byte (c.finished_is_written.ensures text (value v) h) r)
    (λ found place h. c.at_most_one_refusal.ensures text found cause place byte (c.stop_is_refusal.ensures text found place h) r) c.read.ensures
