use Rattle.std.proofs.Common.{map, []}
use Rattle.std.proofs.lemmas.Result.{err_from_is_err_and}
use Rattle.tlb_syntax.specs.View.{constructor}
use Rattle.tlb_kinds.specs.Refusals.{of_contents, of_guard, refusals_within}
use Rattle.tlb_kinds.proofs.Firsts.{is_first_more, finds_later}
use Rattle.tlb_kinds.proofs.check.judge_kept.Goals as goal

pub returns-in_err-judge_contents : goal.returns-in_err-judge_contents
unfolding refusals_within
returns-in_err-judge_contents c =
    let s = map constructor c.args.constructors.now in
    let p = err_from_is_err_and c.from_residual.result c.from_residual.ensures.1 in
    rw (p.1, p.2) (is_first_more (of_contents s [] s) (of_guard s) c.in_err-judge_contents.field-0.0 c.in_err-judge_contents.ensures)

pub returns : goal.returns
unfolding refusals_within
returns c =
    let s = map constructor c.args.constructors.now in
    finds_later (of_contents s [] s) (of_guard s) c.in_ok-judge_contents.ensures c.judge_guard.result c.judge_guard.ensures
