use Rattle.std.proofs.Common.{◌++◌, ◌∙◌, ap, Ok, Bool}
use Rattle.std.proofs.lemmas.Result.{err_from_is_err_and}
use Rattle.nat_solver.specs.Number.{parts, first_lacking, holding, answer}
use Rattle.nat_solver.specs.View.{expr}
use Rattle.nat_solver.proofs.Values.{tells_given, tells_refused, value_from_answer, refused_from_answer, refused_left, refused_right, none_from_value, none_from_values, refused_not_unsolved}
use Rattle.nat_solver.proofs.compare.holds.Goals as goal

pub returns-in_err-m : goal.returns-in_err-m
returns-in_err-m c =
    let p = err_from_is_err_and c.from_residual.result c.from_residual.ensures.1 in
    let a = expr c.args.left.now in
    let b = expr c.args.right.now in
    let env = c.args.env.now in
    let f = c.in_err-m.field-0.0 in
    let r = refused_left f (parts a) (parts b) env (refused_from_answer a env f c.requires.left_known c.in_err-m.ensures.answer) in
    let w = tells_refused {A = Bool} (first_lacking (parts a ++ parts b) env) env f r in
    rw (p.1, p.2) (record { answer = ap (λ m. holding c.args.op m (answer b env)) c.in_err-m.ensures.answer; compared = tt; overflow = w.overflow; unknown = w.unknown; solution = refused_not_unsolved {A = Bool} f _ env r })

pub returns-in_err-n : goal.returns-in_err-n
returns-in_err-n c =
    let p = err_from_is_err_and c.from_residual-in_err-n.result c.from_residual-in_err-n.ensures.1 in
    let a = expr c.args.left.now in
    let b = expr c.args.right.now in
    let env = c.args.env.now in
    let f = c.in_err-n.field-0.0 in
    let m = c.in_ok-m.m in
    let v = value_from_answer a env m c.in_ok-m.ensures.answer in
    let r = refused_right f (parts a) (parts b) env (none_from_value a env m v) (refused_from_answer b env f c.requires.right_known c.in_err-n.ensures.answer) in
    let w = tells_refused {A = Bool} (first_lacking (parts a ++ parts b) env) env f r in
    rw (p.1, p.2) (record { answer = (λ i. holding c.args.op (c.in_ok-m.ensures.answer i) (c.in_err-n.ensures.answer i)); compared = tt; overflow = w.overflow; unknown = w.unknown; solution = refused_not_unsolved {A = Bool} f _ env r })

pub returns : goal.returns
returns c =
    let a = expr c.args.left.now in
    let b = expr c.args.right.now in
    let env = c.args.env.now in
    let v = value_from_answer a env c.in_ok-m.m c.in_ok-m.ensures.answer in
    let u = value_from_answer b env c.in_ok-n.n c.in_ok-n.ensures.answer in
    let w = tells_given {A = Bool} (first_lacking (parts a ++ parts b) env) env c.compares.result (none_from_values a b env c.in_ok-m.m c.in_ok-n.n v u) in
    record {
      answer = ap Ok c.compares.ensures.is ∙ (λ i. holding c.args.op (c.in_ok-m.ensures.answer i) (c.in_ok-n.ensures.answer i));
      compared = (c.in_ok-m.m, c.in_ok-n.n, v, u, c.compares.ensures.holds);
      overflow = w.overflow;
      unknown = w.unknown;
      solution = λ e. cc;
    }
