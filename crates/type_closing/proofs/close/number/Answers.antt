use Rattle.std.proofs.Common.{◌≡◌, ◌+◌, ◌-◌, ◌*◌, ◌∙◌, sym, ap, drop, get_or, arith}
use Rattle.tlb_syntax.specs.Lexeme.{decimal_onto}
use Rattle.type_closing.proofs.Numbers.{next-digit, too-large, read-all}
use Rattle.type_closing.proofs.close.number.Goals as goal

pub digits-preserved : goal.digits-preserved
digits-preserved c =
    let d = get_or c.args.digits.now c.digits.digit-index 0 in
    let is : c.in_ok-number.number ≡ 10 * c.digits.number + (d - 48) =
    omega (arith, c.in_ok-number.ensures.1, c.in_ok-checked_mul.ensures.1, c.from-value.ensures, c.saturating_sub.ensures) in (
      ap (λ n. decimal_onto n (drop (c.digits.digit-index + 1) c.args.digits.now)) is
          ∙ next-digit c.args.digits.now c.digits.digit-index c.digits.number c.digits-test.true c.digits.invariant.0,
      omega (arith, c.in_ok-number.ensures.0, c.in_ok-number.ensures.1),
    )

pub returns-in_err-checked_mul : goal.returns-in_err-checked_mul
returns-in_err-checked_mul c =
    let large = c.in_err-checked_mul.ensures in
    c.from_residual.ensures
    ∙ sym (too-large c.args.digits.now c.digits.digit-index c.digits.number c.digits-test.true c.digits.invariant.0 (omega (arith, large)))

pub returns-in_err-number : goal.returns-in_err-number
returns-in_err-number c =
    let large = c.in_err-number.ensures in
    c.from_residual-in_err-number.ensures
    ∙ sym (too-large c.args.digits.now c.digits.digit-index c.digits.number c.digits-test.true c.digits.invariant.0
    (omega (arith, large, c.in_ok-checked_mul.ensures.1, c.from-value.ensures, c.saturating_sub.ensures)))

pub returns : goal.returns
returns c = sym (read-all c.args.digits.now c.digits.digit-index c.digits.number c.digits-test.false c.digits.invariant.1 c.digits.invariant.0)
