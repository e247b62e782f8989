use Rattle.std.specs.Prelude.{Ok, Err}
use Rattle.kind_declarations.specs.Views.{path_by}
use Rattle.kind_declarations.proofs.ConstructorNodes.{all_outputs, all_refused}
use Rattle.kind_declarations.proofs.Verdicts.{judges_err}
use Rattle.kind_declarations.proofs.scope.Scope.judge_all.Goals as goal

pub returns-in_err-judge_items-clause-judged : goal.returns-in_err-judge_items-clause-judged
returns-in_err-judge_items-clause-judged c =
    judges_err _ _ _ _ c.from_residual.ensures.1
    (all_refused c.args.self.now c.args.constructor.now _ _ _ c.as_slice.ensures c.in_err-judge_items.ensures.judged)

pub returns-in_err-judge_outputs-clause-judged : goal.returns-in_err-judge_outputs-clause-judged
returns-in_err-judge_outputs-clause-judged c =
    judges_err _ _ _ _ c.from_residual-in_err-judge_outputs.ensures.1
    (all_outputs c.args.self.now c.judge_items.new.self c.args.constructor.now c.as_slice.result.now c.as_slice-2.result.now c.push.new.self _ (Err _)
    c.as_slice.ensures c.as_slice-2.ensures c.in_ok-push.ensures.ok c.in_ok-judge_items.ensures.follows c.in_ok-judge_items.ensures.scope
    c.in_ok-judge_items.ensures.judged c.in_err-judge_outputs.ensures)

pub returns-clause-judged : goal.returns-clause-judged
returns-clause-judged c =
    all_outputs c.args.self.now c.judge_items.new.self c.args.constructor.now c.as_slice.result.now c.as_slice-2.result.now c.push.new.self
    (path_by c.args.self.now) (Ok tt)
    c.as_slice.ensures c.as_slice-2.ensures c.in_ok-push.ensures.ok c.in_ok-judge_items.ensures.follows c.in_ok-judge_items.ensures.scope
    c.in_ok-judge_items.ensures.judged c.in_ok-judge_outputs.ensures
