use Rattle.std.proofs.Common.{◌∙◌, ◌++◌, ap}
use Rattle.std.proofs.lemmas.Result.{err_from_is_err_and}
use Rattle.tlb_guard.specs.Numbering.{views}
use Rattle.schema_leads.specs.Tags.{cores}
use Rattle.accepted_schema.specs.Refusals.{of_tags, tag_refusals}
use Rattle.tag_ambiguity.specs.Judged.{of_types}
use Rattle.tag_ambiguity.proofs.Firsts.{is_first_later, is_first_more}
use Rattle.tag_ambiguity.proofs.judge.judge.Goals as goal

pub returns-in_err-judge_tags : goal.returns-in_err-judge_tags
unfolding tag_refusals
returns-in_err-judge_tags c =
    let s = cores (views c.args.constructors.now) in
    let p = err_from_is_err_and c.from_residual-in_err-judge_tags.result c.from_residual-in_err-judge_tags.ensures.1 in
    rw (p.1, p.2) (is_first_more (of_tags s) (of_types s) c.in_err-judge_tags.field-0.0 c.in_err-judge_tags.ensures)

pub returns-in_err-judge_types : goal.returns-in_err-judge_types
unfolding tag_refusals
returns-in_err-judge_types c =
    let s = cores (views c.args.constructors.now) in
    let p = err_from_is_err_and c.from_residual-in_err-judge_types.result c.from_residual-in_err-judge_types.ensures.1 in
    rw (p.1, p.2)
    (is_first_later (of_tags s) (of_types s) c.in_err-judge_types.field-0.0 c.in_ok-judge_tags.ensures c.in_err-judge_types.ensures)

pub returns : goal.returns
unfolding tag_refusals
returns c =
    let s = cores (views c.args.constructors.now) in (
      ap (λ z. z ++ of_types s) c.in_ok-judge_tags.ensures ∙ c.in_ok-judge_types.ensures,
      c.in_ok-table.ensures c.requires.guarded,
    )
