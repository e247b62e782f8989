use Rattle.std.proofs.Common.{refl, Ok, Err}
use Rattle.field_plan.specs.Placed.{place_view}
use Rattle.typed_value.specs.View.{value}
use Rattle.proof_laws.specs.Proving.{proved, stuck_at, no_such_path, not_whole, proof_too_deep, proof_too_large}
use Rattle.cli_stages.proofs.ProvesFacts.{proof-of, refused-as}
use Rattle.cli_stages.proofs.proving.proof_of.Goals as goal

pub returns-in-Ok-clause-answer : goal.returns-in-Ok-clause-answer
returns-in-Ok-clause-answer c = λ words begun.
    proof-of c.laid_is_read.ensures c.at_most_one_path.ensures.path words _ c.args.bad _ _ c.args.root.now
    c.schema-schema.ensures.kept begun (proved c.in-Ok.proved.proof (value c.in-Ok.proved.value)) c.in-Ok.ensures.0.holds
    _ (c.unless_bad.ensures.answer (Ok c.in-Ok.proved.proof) (record { answer = refl }))

pub returns-in-Err-Stuck-clause-answer : goal.returns-in-Err-Stuck-clause-answer
returns-in-Err-Stuck-clause-answer c = λ words begun.
    proof-of c.laid_is_read.ensures c.at_most_one_path.ensures.path words _ c.args.bad _ _ c.args.root.now
    c.schema-schema.ensures.kept begun (stuck_at (place_view c.in-Err-Stuck.place))
    (rw c.in-Err-Stuck.field-0-is at c.in-Err-Stuck.ensures).holds _ (refused-as _ _ c.refused.ensures)

pub returns-in-Err-NoSuchPath-clause-answer : goal.returns-in-Err-NoSuchPath-clause-answer
returns-in-Err-NoSuchPath-clause-answer c = λ words begun.
    proof-of c.laid_is_read.ensures c.at_most_one_path.ensures.path words _ c.args.bad _ _ c.args.root.now
    c.schema-schema.ensures.kept begun (no_such_path c.in-Err-NoSuchPath.number)
    (rw c.in-Err-NoSuchPath.field-0-is at c.in-Err-NoSuchPath.ensures).holds _ (refused-as _ _ c.refused_at.ensures)

pub returns-in-Err-NotWhole-clause-answer : goal.returns-in-Err-NotWhole-clause-answer
returns-in-Err-NotWhole-clause-answer c = λ words begun.
    proof-of c.laid_is_read.ensures c.at_most_one_path.ensures.path words _ c.args.bad _ _ c.args.root.now
    c.schema-schema.ensures.kept begun not_whole (rw c.in-Err-NotWhole.field-0-is at c.in-Err-NotWhole.ensures).holds _
    (c.unless_bad-in-Err-NotWhole.ensures.answer _ (refused-as _ _ c.refused_by.ensures))

pub returns-in-Err-ProofTooDeep-clause-answer : goal.returns-in-Err-ProofTooDeep-clause-answer
returns-in-Err-ProofTooDeep-clause-answer c = λ words begun.
    proof-of c.laid_is_read.ensures c.at_most_one_path.ensures.path words _ c.args.bad _ _ c.args.root.now
    c.schema-schema.ensures.kept begun proof_too_deep
    (rw c.in-Err-ProofTooDeep.field-0-is at c.in-Err-ProofTooDeep.ensures).holds _
    (c.unless_bad-in-Err-ProofTooDeep.ensures.answer _ (refused-as _ _ c.refused_by-in-Err-ProofTooDeep.ensures))

pub returns-in-Err-ProofTooLarge-clause-answer : goal.returns-in-Err-ProofTooLarge-clause-answer
returns-in-Err-ProofTooLarge-clause-answer c = λ words begun.
    proof-of c.laid_is_read.ensures c.at_most_one_path.ensures.path words _ c.args.bad _ _ c.args.root.now
    c.schema-schema.ensures.kept begun proof_too_large
    (rw c.in-Err-ProofTooLarge.field-0-is at c.in-Err-ProofTooLarge.ensures).holds _
    (c.unless_bad-in-Err-ProofTooLarge.ensures.answer _ (refused-as _ _ c.refused_by-in-Err-ProofTooLarge.ensures))
