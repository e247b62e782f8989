use Rattle.std.proofs.Common.{◌-◌, ◌≤◌, ◌^◌, arith}
use Rattle.std.proofs.Math.Pow.{pow_mono}
use Rattle.plan_building.proofs.Numbering.{complement_above, complement_below, complement_low, complement_lower}
use Rattle.plan_building.proofs.numbers.complement.Goals as goal

pub overflow_add-result : goal.overflow_add-result
overflow_add-result c =
    let l : c.args.width - 1 ≤ 127 = omega arith in
    let m : 2 ^ (c.args.width - 1) ≤ 2 ^ 127 = pow_mono l in
    let s = c.requires.sign c.if-number.true in
    omega (arith, m, s, c.half-half.ensures)

pub returns-then-number-half : goal.returns-then-number-half
returns-then-number-half c =
    complement_low c.args.number.negative c.args.number.size c.args.width c.half-half.result _ c.if-number.true
    (omega arith) c.half-half.ensures (omega arith) (omega arith)

pub returns-else-number-half : goal.returns-else-number-half
returns-else-number-half c =
    complement_lower c.args.number.negative c.args.number.size c.args.width c.half-half.result c.if-number.true
    (omega arith) c.half-half.ensures (omega arith)

pub returns-then-number-half-2 : goal.returns-then-number-half-2
returns-then-number-half-2 c =
    complement_below c.args.number.negative c.args.number.size c.args.width c.half-half.result c.if-number.false
    (omega arith) c.half-half.ensures (omega arith)

pub returns-else-number-half-2 : goal.returns-else-number-half-2
returns-else-number-half-2 c =
    complement_above c.args.number.negative c.args.number.size c.args.width c.half-half.result c.if-number.false
    (omega arith) c.half-half.ensures (omega arith)
