use Rattle.std.proofs.Common.{◌∙◌, ap, Some}
use Rattle.std.proofs.lemmas.Result.{IfOk-weaker}
use Rattle.tlb_files.specs.View.{contents_of, files_by}
use Rattle.cli_commands.specs.View.{form_by}
use Rattle.cli_run.specs.View.{verdict_by}
use Rattle.cli_run.proofs.Answered.{concluded, file-refused}
use Rattle.cli_run.proofs.answer.answer_to.Goals as goal

pub returns-in-Ok-clause-answered : goal.returns-in-Ok-clause-answered
returns-in-Ok-clause-answered g c =
    let files = ap files_by c.as_slice.ensures.value ∙ c.in_ok-files.ensures in
    IfOk-weaker c.conclude.result _ _
    (λ a is. concluded (form_by c.args.form) (g.H.Shelf.held c.args.shelf.now) (files_by c.as_slice.result.now) _ _ (contents_of c.in-Ok.contents.items) (contents_of c.as_slice-in-Ok.result.now)
    c.answer.result (verdict_by a) files c.in-Ok.ensures.loaded (ap contents_of c.as_slice-in-Ok.ensures.value) c.answer.ensures is)
    c.conclude.ensures

pub returns-clause-answered : goal.returns-clause-answered
returns-clause-answered g c =
    let files = ap files_by c.as_slice.ensures.value ∙ c.in_ok-files.ensures in
    IfOk-weaker c.refuse_file.result _ _
    (λ a is. file-refused (Some (form_by c.args.form)) (g.H.Shelf.held c.args.shelf.now) (files_by c.as_slice.result.now) _ _ c.in-Err.error (verdict_by a) files c.in-Err.ensures.stops is)
    c.refuse_file.ensures
