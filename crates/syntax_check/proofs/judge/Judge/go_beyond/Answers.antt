use Rattle.std.proofs.Common.{map}
use Rattle.tlb_syntax.specs.Lexeme.{lexeme}
use Rattle.syntax_check.specs.Step.{bounds_of, state, below, after_move}
use Rattle.syntax_check.specs.Judged.{reported, reported_verdict, position}
use Rattle.syntax_check.proofs.JudgeSteps.{beyond}
use Rattle.syntax_check.proofs.judge.Judge.go_beyond.Goals as goal

pub returns-in_ok-go_on-in-Ok : goal.returns-in_ok-go_on-in-Ok
returns-in_ok-go_on-in-Ok c =
    let a = c.args.self.now in
    let b = c.lift_limits.new.self in
    beyond (state a.machine) (state b) (after_move c.in-Ok.to (below b)) (bounds_of a.machine) (bounds_of b) a.place a.begun (map (λ x. x.now) a.names.items)
    (reported_verdict a.met) (lexeme c.args.next) c.args.why (reported c.refusal-refusal.result) (position c.go_on.new.self)
    c.lift_limits.ensures.lifted c.lift_limits.ensures.freed c.refusal-refusal.ensures c.in-Ok.ensures c.in_ok-go_on-in-Ok.ensures
