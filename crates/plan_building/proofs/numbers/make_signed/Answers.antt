use Rattle.std.proofs.Common.{◌∙◌}
use Rattle.std.proofs.lemmas.Result.{err_from_is_err_and}
use Rattle.plan_building.specs.StopsLaws.{goes_on, stops_on, stops_same, stops_where}
use Rattle.plan_building.specs.View.{grown}
use Rattle.plan_building.proofs.Numbering.{complement_fits, integer_high, integer_put, integer_shape}
use Rattle.plan_building.proofs.numbers.make_signed.Goals as goal

pub returns-then-is_signed_zero : goal.returns-then-is_signed_zero
returns-then-is_signed_zero c = λ h.
    let z = c.is_signed_zero.ensures.some c.if-is_signed_zero.true in
    stops_where h c.stop_here.result _ _
    (integer_shape h c.args.width c.args.number.negative c.args.number.size (grown c.args.b.now) z.0 z.1)
    (c.stop_here.ensures h)

pub returns-in-None : goal.returns-in-None
returns-in-None c = λ h.
    stops_where h c.stop_here-in-None.result _ _
    (integer_high h c.args.width c.args.number.negative c.args.number.size (grown c.args.b.now)
    (c.is_signed_zero.ensures.none c.if-is_signed_zero.false) c.in-None.ensures)
    (c.stop_here-in-None.ensures h)

pub put_number-requires-clause-fits : goal.put_number-requires-clause-fits
put_number-requires-clause-fits c =
    complement_fits c.args.number.negative c.args.number.size c.args.width c.in-Some.bits
    (c.is_signed_zero.ensures.none c.if-is_signed_zero.false) c.in-Some.ensures

pub returns-in_err-put_number-in-Some : goal.returns-in_err-put_number-in-Some
returns-in_err-put_number-in-Some c = λ h.
    let w = err_from_is_err_and c.from_residual.result c.from_residual.ensures.1 in
    rw (w.1, w.2) (stops_same h _ _ _
    (integer_put h c.args.width c.args.number.negative c.args.number.size (grown c.args.b.now) c.in-Some.bits
    (c.is_signed_zero.ensures.none c.if-is_signed_zero.false) c.in-Some.ensures)
    (stops_on h _ _ _ (c.in_err-put_number-in-Some.ensures h)))

pub returns-in_ok-put_number-in-Some : goal.returns-in_ok-put_number-in-Some
returns-in_ok-put_number-in-Some c = λ h.
    integer_put h c.args.width c.args.number.negative c.args.number.size (grown c.args.b.now) c.in-Some.bits
    (c.is_signed_zero.ensures.none c.if-is_signed_zero.false) c.in-Some.ensures
    ∙ goes_on _ _ _ (c.in_ok-put_number-in-Some.ensures h)
