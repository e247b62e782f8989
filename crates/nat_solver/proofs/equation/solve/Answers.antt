use Rattle.std.proofs.Common.{◌≡◌, ◌↔◌, ◌∙◌, sym, ap, Ok, Some, ℕ}
use Rattle.std.proofs.lemmas.Result.{err_from_is_err_and}
use Rattle.nat_solver.specs.View.{expr}
use Rattle.nat_solver.proofs.Equations.{refused_by_left, refused_by_right, solved_found, none_lacks, holder_left, holder_right, solves_left, solves_right, one_side}
use Rattle.nat_solver.specs.Number.{Solves}
use Rattle.nat_solver.proofs.equation.solve.Goals as goal
use Rattle.nat_solver.proofs.equation.solve.Goals.{in-Some-default, in-None-Some}

pub returns-in_err-left_number : goal.returns-in_err-left_number
returns-in_err-left_number c =
    let p = err_from_is_err_and c.from_residual.result c.from_residual.ensures.1 in
    let w = refused_by_left (expr c.args.left.now) (expr c.args.right.now) c.args.env.now c.in_err-left_number.field-0.0 c.in_err-left_number.ensures in
    rw (p.1, p.2) (record { answer = w.answer; solved = w.solved; overflow = w.tells.overflow; unknown = w.tells.unknown; unsolved = w.unsolved })

pub returns-in_err-right_number : goal.returns-in_err-right_number
returns-in_err-right_number c =
    let p = err_from_is_err_and c.from_residual-in_err-right_number.result c.from_residual-in_err-right_number.ensures.1 in
    let w = refused_by_right (expr c.args.left.now) (expr c.args.right.now) c.args.env.now c.in_ok-left_number.left_number c.in_err-right_number.field-0.0 c.in_ok-left_number.ensures c.in_err-right_number.ensures in
    rw (p.1, p.2) (record { answer = w.answer; solved = w.solved; overflow = w.tells.overflow; unknown = w.tells.unknown; unsolved = w.unsolved })

pub number_for-found-requires : goal.number_for-found-requires
number_for-found-requires c =
    let w = holder_right (expr c.args.left.now) (expr c.args.right.now) c.args.env.now c.requires.0 c.in-Some-default.n c.in_ok-right_number.right_number c.requires.1
    (sym (ap Ok c.in-Some-default.is-0) ∙ c.in_ok-left_number.ensures) c.in_ok-right_number.ensures in
    record { one = (c.requires.0, w.only); counts = w.counts; valued = w.valued }

pub number_for-found-requires-in-None-Some : goal.number_for-found-requires-in-None-Some
number_for-found-requires-in-None-Some c =
    let w = holder_left (expr c.args.left.now) (expr c.args.right.now) c.args.env.now c.requires.0 c.in-None-Some.n c.in_ok-left_number.left_number c.requires.1
    c.in_ok-left_number.ensures (sym (ap Ok c.in-None-Some.is-1) ∙ c.in_ok-right_number.ensures) in
    record { one = (c.requires.0, w.only); counts = w.counts; valued = w.valued }

pub unreachable-requires : goal.unreachable-requires
unreachable-requires c =
    one_side (expr c.args.left.now) (expr c.args.right.now) c.args.env.now c.requires.0 c.requires.1
    (sym (ap Ok c.in-None-None.is-0) ∙ c.in_ok-left_number.ensures) (sym (ap Ok c.in-None-None.is-1) ∙ c.in_ok-right_number.ensures)

pub returns : goal.returns
returns c =
    let left = expr c.args.left.now in
    let right = expr c.args.right.now in
    let env = c.args.env.now in
    let gives : (x : ℕ) → (c.match-left_number.found ≡ Some x) ↔ Solves left right env x =
    elim c.match-left_number.branch [
      | in-Some-default w ↦ λ x.
          (let s = solves_right left right env w.in-Some-default.n x (sym (ap Ok w.in-Some-default.is-0) ∙ c.in_ok-left_number.ensures) in
          (λ e. s.0 ((w.number_for-found.ensures x).0 (sym w.found-is ∙ e)), λ h. w.found-is ∙ (w.number_for-found.ensures x).1 (s.1 h)))
      | in-None-Some w ↦ λ x.
          (let s = solves_left left right env w.in-None-Some.n x (sym (ap Ok w.in-None-Some.is-1) ∙ c.in_ok-right_number.ensures) in
          (λ e. s.0 ((w.number_for-found-in-None-Some.ensures x).0 (sym w.found-is ∙ e)), λ h. w.found-is ∙ (w.number_for-found-in-None-Some.ensures x).1 (s.1 h)))
    ] in
    let w = solved_found left right env c.requires.0 c.requires.1 c.match-left_number.found c.ok_or.result
    (none_lacks left right env c.in_ok-left_number.left_number c.in_ok-right_number.right_number c.in_ok-left_number.ensures c.in_ok-right_number.ensures) gives c.ok_or.ensures.value in
    record { answer = w.answer; solved = w.solved; overflow = w.tells.overflow; unknown = w.tells.unknown; unsolved = w.unsolved }
