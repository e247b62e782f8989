use Rattle.std.proofs.Common.{◌∙◌, sym, ap, Ok}
use Rattle.std.proofs.lemmas.Result.{err_from_is_err_and}
use Rattle.nat_solver.specs.View.{expr}
use Rattle.nat_solver.proofs.Values.{evaluates_given, evaluates_refused, never_unknown}
use Rattle.nat_solver.proofs.evaluate.eval.Goals as goal

pub returns-in_err-n : goal.returns-in_err-n
returns-in_err-n c =
    let p = err_from_is_err_and c.from_residual.result c.from_residual.ensures.1 in
    let w = evaluates_refused (expr c.args.e.now) c.args.env.now c.in_err-n.field-0.0 c.in_err-n.ensures in
    rw (p.1, p.2) (record { answer = w.is; value = w.valued; overflow = w.tells.overflow; unknown = w.tells.unknown; solution = w.solved })

pub unreachable-requires : goal.unreachable-requires
unreachable-requires c =
    never_unknown (expr c.args.e.now) c.args.env.now c.requires (sym (ap Ok c.in-None.is) ∙ c.in_ok-n.ensures)

pub returns : goal.returns
returns c =
    let w = evaluates_given (expr c.args.e.now) c.args.env.now c.in-Some.n (sym (ap Ok c.in-Some.is) ∙ c.in_ok-n.ensures) in
    record { answer = w.is; value = w.valued; overflow = w.tells.overflow; unknown = w.tells.unknown; solution = w.solved }
