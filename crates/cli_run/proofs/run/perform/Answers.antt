use Rattle.std.proofs.Common.{refl}
use Rattle.cli_commands.specs.View.{form_by}
use Rattle.cli_run.specs.View.{verdict_by}
use Rattle.cli_run.proofs.Answered.{usage-put, usage-unput, form-put, form-unput, form-memory}
use Rattle.cli_run.proofs.run.perform.Goals as goal

pub returns-in-Ok-clause-ran : goal.returns-in-Ok-clause-ran
returns-in-Ok-clause-ran g c = usage-put _ _ _ _ _ _ c.in_default.ensures.form c.in-Ok.ensures.ok c.in-Ok.ensures.cause.kept

pub returns-in-Err-clause-ran : goal.returns-in-Err-clause-ran
returns-in-Err-clause-ran g c =
    usage-unput _ _ _ _ _ _ c.in_default.ensures.form c.in-Err.ensures.err c.in-Err.ensures.cause.failed

pub returns-in-Err-answer_to-clause-ran : goal.returns-in-Err-answer_to-clause-ran
returns-in-Err-answer_to-clause-ran g c =
    form-memory (form_by c.in-Some.form) _ _ _ _ _ _ _ c.in-Some.ensures.form c.answer_to.ensures.opens refl refl

pub returns-in-Ok-put_all-clause-ran : goal.returns-in-Ok-put_all-clause-ran
returns-in-Ok-put_all-clause-ran g c =
    form-put (form_by c.in-Some.form) _ _ _ _ _ _ _ (verdict_by c.in-Ok-answer_to.answer)
    c.in-Some.ensures.form c.in-Ok-answer_to.ensures.answered
    (rw c.deref.ensures.value at c.in-Ok-put_all.ensures.ok) c.in-Ok-put_all.ensures.cause.kept

pub returns-clause-ran : goal.returns-clause-ran
returns-clause-ran g c =
    form-unput (form_by c.in-Some.form) _ _ _ _ _ _ _ (verdict_by c.in-Ok-answer_to.answer)
    c.in-Some.ensures.form c.in-Ok-answer_to.ensures.answered
    (rw c.deref.ensures.value at c.in-Err-put_all.ensures.err) c.in-Err-put_all.ensures.cause.failed
