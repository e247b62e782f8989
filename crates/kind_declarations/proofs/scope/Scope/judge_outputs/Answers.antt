use Rattle.kind_declarations.specs.Views.{item_context}
use Rattle.kind_declarations.proofs.OutputNodes.{outputs_end, outputs_passed, outputs_refused}
use Rattle.kind_declarations.proofs.Verdicts.{judges_err}
use Rattle.kind_declarations.proofs.scope.Scope.judge_outputs.Goals as goal

pub returns-in_err-judge_param : goal.returns-in_err-judge_param
returns-in_err-judge_param c =
    judges_err _ _ _ _ c.from_residual.ensures.1
    (outputs_refused _ _ (item_context c.args.self.now) c.loop-param.invariant _ _ _ c.loop-param-test.true c.param-item.is c.in_err-judge_param.ensures)

pub loop-param-preserved : goal.loop-param-preserved
loop-param-preserved c =
    outputs_passed _ _ (item_context c.args.self.now) c.loop-param.invariant _ c.loop-param-test.true c.param-item.is c.in_ok-judge_param.ensures

pub returns : goal.returns
returns c = outputs_end _ _ (item_context c.args.self.now) c.loop-param.invariant c.loop-param-test.false
