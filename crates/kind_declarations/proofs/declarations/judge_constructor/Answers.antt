use Rattle.std.proofs.Common.{ap, ◌∙◌, map}
use Rattle.tlb_syntax.specs.View.{constructor}
use Rattle.kind_declarations.specs.Views.{words}
use Rattle.kind_declarations.proofs.ConstructorNodes.{endings_judged}
use Rattle.kind_declarations.proofs.Verdicts.{judges_err, refused_then}
use Rattle.kind_declarations.proofs.declarations.judge_constructor.Goals as goal

pub returns-in_err-judge_record : goal.returns-in_err-judge_record
returns-in_err-judge_record c =
    judges_err _ _ _ _ c.from_residual.ensures.1 (refused_then _ _ _ _ c.in_err-judge_record.ensures.judged)

pub returns : goal.returns
returns c =
    endings_judged (map constructor c.args.types.now) c.args.constructor.now c.as_slice.result.now c.judge_record.new.path _ _ c.judge_endings.result
    c.as_slice.ensures c.in_ok-judge_record.ensures.kept (ap words c.as_slice-2.ensures ∙ c.in_ok-inputs.ensures) c.in_ok-judge_record.ensures.judged c.judge_endings.ensures.judged
